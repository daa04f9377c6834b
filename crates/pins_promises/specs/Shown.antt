-- What a place in the table, or a count that crews share, would show: two histories with the same calls of crew 1, and each of the two is another in them.
use Rattle.std.specs.Prelude.{ℕ, ◌+◌, ◌≡◌, refl, List, [], ◌∷◌, get_or}
use Rattle.rules.specs.Site.{first_refusal, if_done}
use Rattle.pins_rules.specs.Table.{pin, crew_of, chamber_of, stands, pinned, held, empty, word_fits, words_fit, each_once, table_fits, first_changed, with_pin}
use Rattle.pins_rules.specs.Calls.{crew_number, chamber_number, add_number, add_table}
use Rattle.pins_promises.specs.Histories.{Call, add, by, after, table_after, calls_of}

-- crew 1 alone, and behind a pin of crew 2's
unfoldable pub alone : List Call
alone = add 1 5 ∷ []

unfoldable pub beside : List Call
beside = add 2 7 ∷ add 1 5 ∷ []

-- how many pins a table has of both crews
unfoldable pub of_both : (table : List ℕ) → ℕ
of_both table = held 1 table + held 2 table

pub record PlaceAndCountDiffer : Type 0 where
  pub same_calls : calls_of 1 alone ≡ calls_of 1 beside
  -- its pin stands in the first place, and in the second
  pub first_place : get_or (table_after empty alone) 0 0 ≡ pin 1 5
  pub second_place : get_or (table_after empty beside) 1 0 ≡ pin 1 5
  -- there is one pin, and there are two
  pub one_pin : of_both (table_after empty alone) ≡ 1
  pub two_pins : of_both (table_after empty beside) ≡ 2

pub place_and_count_differ : PlaceAndCountDiffer
unfolding alone beside of_both by after table_after calls_of pin crew_of chamber_of stands pinned held empty word_fits words_fit each_once table_fits first_changed with_pin crew_number chamber_number add_number add_table first_refusal if_done
place_and_count_differ = record { same_calls = refl; first_place = refl; second_place = refl; one_pin = refl; two_pins = refl }
