-- `over_face`: nothing crosses a wall, nor a face without a velocity; an inner face has cells K and L, and the step limit bounds what crosses it.
use mathlib.Core.Bool.{false}
use mathlib.Core.Path.{◌≡◌, ◌∙◌, sym, ap₂, subst}
use Prim.Native.Nat.{ℕ}
use mir.Syntax.{w32}
use Rattle.rules.specs.Site.{Water, read_state}
use Rattle.laws.specs.Sizes.{Within}
use Rattle.laws.specs.Signed.{word_is}
use Rattle.laws.specs.Exact.{Node, is_zero_lem, result}
use Rattle.face.specs.Ranges.{Side}
use Rattle.layout.specs.Ways.{back, is_wall, across}
use Rattle.layout.proofs.Pointing.{beside}
use Rattle.transfers.proofs.Crossings.{over_wall, over_still, over_read}
use Rattle.transfers.proofs.Sites.{height_place, face_place, height_fits_lem, speed_fits_lem, height_word, within_word, time, side_fits, crossed}
use Rattle.transfers.proofs.over_face.Goals as goal

pub returns-then-is_wall : goal.returns-then-is_wall
returns-then-is_wall c = sym (over_wall _ _ _ _ _ c.requires.face (sym c.is_wall.ensures ∙ c.if-is_wall.true))

pub face_at-u-requires : goal.face_at-u-requires
face_at-u-requires c = let p = c.requires in face_place p.limited.sound p.face

pub returns-then-u-eq0 : goal.returns-then-u-eq0
returns-then-u-eq0 c =
    let u_node : Node w32 = result c.face_at-u.ensures (speed_fits_lem c.requires.limited.sound _ _ _) tt in
    sym (over_still _ _ _ _ _ (is_zero_lem u_node c.if-u-eq0.true))

pub back_column-requires : goal.back_column-requires
back_column-requires c = (beside _ _ _ _ c.requires.face (sym c.is_wall.ensures ∙ c.if-is_wall.false)).back_east

pub back_row-requires : goal.back_row-requires
back_row-requires c = (beside _ _ _ _ c.requires.face (sym c.is_wall.ensures ∙ c.if-is_wall.false)).back_north

pub height_at-k-requires : goal.height_at-k-requires
height_at-k-requires c =
    let b = beside _ _ _ _ c.requires.face (sym c.is_wall.ensures ∙ c.if-is_wall.false) in
    rw (c.back_column.ensures, c.back_row.ensures) (height_place c.requires.limited.sound b.column_k b.row_k)

pub height_at-l-requires : goal.height_at-l-requires
height_at-l-requires c =
    let b = beside _ _ _ _ c.requires.face (sym c.is_wall.ensures ∙ c.if-is_wall.false) in
    height_place c.requires.limited.sound b.column_l b.row_l

pub crossing-requires : goal.crossing-requires
crossing-requires c =
    let p = c.requires in
    let inner : is_wall c.args.card c.args.way c.args.i c.args.j ≡ false = sym c.is_wall.ensures ∙ c.if-is_wall.false in
    let b = beside _ _ _ _ p.face inner in
    let w : Water = read_state c.args.card c.args.state.now in
    let k = c.height_at-k in
    let l = c.height_at-l in
    let u = c.face_at-u in
    let behind : k.result ≡ w.height (back c.args.way c.args.i) (back (across c.args.way) c.args.j) = k.ensures ∙ ap₂ (λ (i j : ℕ). w.height i j) c.back_column.ensures c.back_row.ensures in
    record {
      ranges = record {
        height_k = height_word k.result k.type_inv behind (height_fits_lem p.limited.sound _ _ b.column_k b.row_k);
        height_l = height_word l.result l.type_inv l.ensures (height_fits_lem p.limited.sound _ _ b.column_l b.row_l);
        speed = within_word u.result u.type_inv u.ensures (speed_fits_lem p.limited.sound _ _ _);
        time = time p.limited.sound;
        side = subst Side (sym c.side.ensures) (side_fits p.limited.sound _);
      };
      size = subst (Within 50000000)
          (sym (over_read _ w p.face inner c.side.ensures (word_is k.result k.type_inv behind) (word_is l.result l.type_inv l.ensures) (word_is u.result u.type_inv u.ensures)))
          (crossed p.limited _ _ _ p.face);
    }

pub returns-else-u-eq0 : goal.returns-else-u-eq0
returns-else-u-eq0 c =
    let w : Water = read_state c.args.card c.args.state.now in
    let k = c.height_at-k in
    let l = c.height_at-l in
    let u = c.face_at-u in
    let behind : k.result ≡ w.height (back c.args.way c.args.i) (back (across c.args.way) c.args.j) = k.ensures ∙ ap₂ (λ (i j : ℕ). w.height i j) c.back_column.ensures c.back_row.ensures in
    word_is c.crossing.result c.crossing.type_inv
    (c.crossing.ensures
    ∙ over_read _ w c.requires.face (sym c.is_wall.ensures ∙ c.if-is_wall.false) c.side.ensures (word_is k.result k.type_inv behind) (word_is l.result l.type_inv l.ensures)
    (word_is u.result u.type_inv u.ensures))
