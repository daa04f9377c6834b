-- What is written as a raster is read back: the card's columns, rows and side, and the ground.
use Rattle.std.specs.Prelude.{◌≤◌, ◌≡◌, ◌&&◌, List, ℤ, length, eqb}
use Rattle.std.proofs.Math.Path.{ap₂}
use Rattle.std.proofs.Common.{◌∙◌, eqb→eq}
use Rattle.std.proofs.Math.IntN.{nat_abs}
use Rattle.std.proofs.Math.Dec.{leb→le}
use Rattle.rules.specs.declared.Card.{Card}
use Rattle.rules.specs.Site.{cells, ground_fits, card_fits, grounds_fit, read_ground, first_of, if_done}
use Rattle.rules.specs.Raster.{rows_turned, raster_ground, raster_number_of, raster_number, raster_text}
use Rattle.rules.specs.Calls.{read_raster_answer, read_raster_ground}
use Rattle.laws.specs.Tests.{and_left, to_T}
use Rattle.laws.specs.Grids.{all_at_at}
use Rattle.laws.specs.Checks.{Passed, apart}
use Rattle.laws.specs.Facts.{card_facts}
use Rattle.raster_laws.specs.Turned.{length-turned, turned_keeps, turned_twice}
use Rattle.raster_laws.specs.Written.{words_written}
use Rattle.raster_laws.specs.Reread.{Writable, columns_read, rows_read, side_read, values_read, number_read}

-- a card and a ground that the writer does not refuse for 1, 2 or 3
module _ (c : Card) (g : List ℤ) (fits : first_of (card_fits c) (eqb (length g) (cells c) && eqb c.dx c.dy) (grounds_fit c (read_ground c g)) ≡ 0) where
  abbrev turned : List ℤ
  turned = rows_turned c.columns c.rows g

  passed : Passed (card_fits c) (eqb (length g) (cells c) && eqb c.dx c.dy) (grounds_fit c (read_ground c g))
  passed = apart (card_fits c) (eqb (length g) (cells c) && eqb c.dx c.dy) (grounds_fit c (read_ground c g)) fits

  long : length g ≡ cells c
  long = eqb→eq (length g) (cells c) (and_left (eqb (length g) (cells c)) (eqb c.dx c.dy) (to_T passed.lengths))

  writable : Writable c.columns c.rows c.dx turned
  unfolding grounds_fit read_ground
  writable =
      let ranges = card_facts c passed.card in
      let many = length-turned c.columns c.rows g in
      record {
        columns_low = ranges.columns_low;
        columns_high = ranges.columns_high;
        rows_low = ranges.rows_low;
        rows_high = ranges.rows_high;
        side_low = ranges.dx_low;
        side_high = ranges.dx_high;
        long = many;
        small = λ k b.
            turned_keeps c.columns c.rows g (λ z. nat_abs z ≤ 50000000)
            (λ i j hi hj. leb→le _ _ (all_at_at c.columns c.rows (λ i j. ground_fits (read_ground c g i j)) (to_T passed.values) i j hi hj))
            k (rw many at b);
      }

  module _ (lent : List ℤ) (room : length lent ≡ cells c) where
    done : raster_number (raster_text c g) (length lent) ≡ 0
    unfolding raster_number
    done = ap₂ raster_number_of (words_written c g) room ∙ number_read writable

    pub reads_back_answer : read_raster_answer (raster_text c g) lent ≡ record { number = 0; columns = c.columns; rows = c.rows; side = c.dx }
    unfolding read_raster_answer if_done
    reads_back_answer = rw (done, words_written c g, columns_read writable, rows_read writable, side_read writable)

    pub reads_back_ground : read_raster_ground (raster_text c g) lent ≡ g
    unfolding read_raster_ground if_done raster_ground
    reads_back_ground =
        rw (done, words_written c g, columns_read writable, rows_read writable, values_read writable)
        (turned_twice c.columns c.rows g long)
