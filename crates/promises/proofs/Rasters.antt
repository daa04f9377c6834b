-- Why what specs/Rasters.antt says holds.
use Prim.Native.Nat.{ℕ, ◌+◌, ◌*◌}
use Rattle.std.specs.Prelude.{◌≡◌, true, ℤ, pos}
use Rattle.std.proofs.Math.Path.{sym, ap₂}
use Rattle.std.proofs.Common.{◌∙◌}
use mathlib.Core.List.{List, [], ◌∷◌}
use Rattle.std.proofs.Math.ListN.{length, get_or}
use Rattle.std.proofs.Math.Arith.{digits_lt}
use Rattle.std.proofs.Math.Dec.{le→leb}
use Rattle.rules.specs.declared.Card.{Card}
use Rattle.rules.specs.declared.Raster.{Raster}
use Rattle.rules.specs.Site.{sizes_fit, sides_fit, times_fit, card_fits, ground_fits, grounds_fit, read_ground}
use Rattle.rules.specs.PublicContracts.{ReadRasterContract}
use Rattle.laws.specs.Tests.{true_of}
use Rattle.laws.specs.Facts.{within_ends}
use Rattle.laws.specs.Grids.{all_at_intro}
use Rattle.promises.specs.Rasters.{Taken, ground_fits_lem}

module _ (text : List ℕ) (lent : List ℤ) (answered : Raster) (ground_at_exit : List ℤ) (r : ReadRasterContract text lent answered ground_at_exit) (z : answered.number ≡ 0) where
  -- with the columns, the rows and the side that were answered, and a time step and steps in their ranges
  pub ground_taken : (c : Card) → c.columns ≡ answered.columns → c.rows ≡ answered.rows → c.dx ≡ answered.side → c.dy ≡ answered.side → times_fit c ≡ true → Taken c ground_at_exit
  unfolding card_fits sizes_fit sides_fit grounds_fit read_ground
  ground_taken c m n x y t =
      let f = ground_fits_lem text lent answered ground_at_exit r z in
      let wide = within_ends 1 128 answered.columns f.columns_low f.columns_high in
      let high = within_ends 1 128 answered.rows f.rows_low f.rows_high in
      let side = within_ends 100000 20000000 answered.side f.side_low f.side_high in
      let long : length ground_at_exit ≡ c.rows * c.columns = f.long ∙ sym (ap₂ ◌*◌ n m) in
      record {
        card = rw (t, m, n, x, y, wide, high, side);
        long = long;
        values =
            true_of _
            (all_at_intro c.columns c.rows (λ i j. ground_fits (get_or ground_at_exit (j * c.columns + i) (pos 0)))
            (λ i j hi hj. le→leb _ 50000000 (f.small (j * c.columns + i) (rw long (digits_lt hj hi)))));
      }
