-- `put_front`: what is handed over lies in the text and in the room, whichever way it was worked out; and it is what fits.
use Rattle.std.proofs.Common.{◌≡◌, ◌≤◌, sym, ◌∙◌, ap, length, take, arith}
use Rattle.std.proofs.lemmas.List.{length-take-le}
use Rattle.rules.specs.Text.{fitted}
use Rattle.put.proofs.Laws.{handed_none, handed_all, put_handed}
use Rattle.put.proofs.put_front.Goals as goal
use Rattle.put.proofs.put_front.Goals.{then-room-n, else-room-n}

pub returns : goal.returns
returns c =
    let text = c.args.text.now in
    let room = c.args.room.now in
    let n = c.if-room-n.handed in
    let fits : take n text ≡ fitted text (length room) =
    elim c.if-room-n.branch [ then-room-n w ↦ handed_none _ _ _ w.if-room-n.true w.handed-is | else-room-n w ↦ handed_all _ _ _ w.if-room-n.false w.handed-is ] in
    let within : n ≤ length text = elim c.if-room-n.branch [ then-room-n w ↦ omega arith | else-room-n w ↦ omega arith ] in
    put_handed text room c.copy_from_slice.new.self n (c.copy_from_slice.ensures.after ∙ fits) (sym (length-take-le n text within) ∙ ap length (sym c.copy_from_slice.ensures.after))
