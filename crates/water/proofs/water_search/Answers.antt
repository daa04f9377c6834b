-- `water_search`: what is read lies in the row and in the room, and the answer over the gathered numbers is that over the row.
use Rattle.std.proofs.Common.{◌≡◌, ◌∙◌, sym, ap, subst, length, SFits, w32}
use mir.Facts.{to_z-of_z}
use Rattle.records.specs.Row.{to_read, Readable, gathered}
use Rattle.records.proofs.Rows.{readable, row_answers}
use Rattle.water.proofs.water_search.Goals as goal

pub gather-requires : goal.gather-requires
gather-requires c = subst (Readable c.args.chambers.now) (sym c.to_read-read.ensures) (readable _ _ _ _)

pub returns : goal.returns
returns c =
    let a = c.args in
    let depth : SFits w32 a.depth = c.ranges.depth in
    let both : c.gather.result ≡ gathered a.chambers.now (to_read a.card a.land.now a.state.now (length a.chambers.now)) =
    c.gather.ensures ∙ ap (gathered a.chambers.now) c.to_read-read.ensures in
    row_answers _ _ _ _ _ _ _ _ _ (rw both at (simp to_z-of_z at c.search_gathered.ensures))
