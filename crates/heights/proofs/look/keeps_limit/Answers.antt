-- `keeps_limit`: the four words that are read are the cell's velocities, each in its range, and the test over them is the limit.
use mathlib.Core.Path.{◌≡◌, ◌∙◌, ap}
use mathlib.Core.Bool.{Bool}
use mathlib.Core.List.{List}
use Prim.Native.Nat.{ℕ, suc, ◌+◌, ◌*◌}
use lib.IntN.{ℤ}
use lib.Dec.{leb}
use mir.Val.{to_z, of_z}
use mir.Syntax.{w32}
use Rattle.rules.specs.declared.Card.{Card}
use Rattle.rules.specs.Site.{read_state}
use Rattle.rules.specs.Step.{forward, backward, within_limit}
use Rattle.laws.specs.Signed.{small_is, small_within}
use Rattle.face.specs.Ranges.{InLimit}
use Rattle.layout.specs.declared.ways.Way.TheVariants.{East, North}
use Rattle.layout.specs.declared.cells.Cell.{Cell}
use Rattle.layout.specs.Cells.{cell_at}
use Rattle.transfers.specs.Known.{SoundState}
use Rattle.layout.specs.Ways.{side, speeds}
use Rattle.transfers.proofs.Sites.{facts, speed_fits_lem, time, side_fits}
use Rattle.heights.proofs.look.keeps_limit.Goals as goal

abbrev word : ℤ → ℤ
word z = to_z w32 (of_z w32 z)

-- the velocities of the cell that was read are in their range, and the limit over them is the cell's
module _ {c : Card} {s : List ℤ} (i j : ℕ) (cell : Cell) (sound : SoundState c s) (is : cell ≡ cell_at c s s i j) where
  in_limit : InLimit (word cell.west) (word cell.east) (word cell.south) (word cell.north) c.dt c.dx c.dy
  unfolding side speeds cell_at
  in_limit =
      record {
        west = small_within cell.west (ap (λ (x : Cell). x.west) is) (speed_fits_lem sound East i j) tt;
        east = small_within cell.east (ap (λ (x : Cell). x.east) is) (speed_fits_lem sound East (suc i) j) tt;
        south = small_within cell.south (ap (λ (x : Cell). x.south) is) (speed_fits_lem sound North i j) tt;
        north = small_within cell.north (ap (λ (x : Cell). x.north) is) (speed_fits_lem sound North i (suc j)) tt;
        time = time sound;
        side_x = side_fits sound East;
        side_y = side_fits sound North;
      }

  limit_is : {kept : Bool}
      → kept ≡ leb (c.dt * ((backward (word cell.west) + forward (word cell.east)) * c.dy + (backward (word cell.south) + forward (word cell.north)) * c.dx)) (1000 * (c.dx * c.dy))
      → kept ≡ within_limit c (read_state c s) i j
  unfolding within_limit speeds cell_at
  limit_is e =
      e
      ∙ rw (
        small_is cell.west (ap (λ (x : Cell). x.west) is) (speed_fits_lem sound East i j) tt,
        small_is cell.east (ap (λ (x : Cell). x.east) is) (speed_fits_lem sound East (suc i) j) tt,
        small_is cell.south (ap (λ (x : Cell). x.south) is) (speed_fits_lem sound North i j) tt,
        small_is cell.north (ap (λ (x : Cell). x.north) is) (speed_fits_lem sound North i (suc j)) tt,
      )

pub cell_at-cell-requires : goal.cell_at-cell-requires
cell_at-cell-requires c = let p = c.requires in record { card = (facts p.sound).card; heights = (facts p.sound).lengths.state; faces = (facts p.sound).lengths.state; column = p.column; row = p.row }

pub keeps_limit-requires : goal.keeps_limit-requires
keeps_limit-requires c = search in_limit

pub returns : goal.returns
returns c = search limit_is
