-- What is printed by the player's number, and the site that is run.
use Prim.Native.Nat.{ℕ, suc, ◌≤◌}
use mathlib.Core.Path.{◌≡◌, sym, ap, ap₂, ◌∙◌}
use mathlib.Core.Bool.{true}
use mathlib.Core.List.{List, []}
use native.Mathlib.Nat.{mul-le-mul}
use native.Mathlib.Omega.{arith}
use lib.Dec.{leb, leb→le}
use lib.IntN.{ℤ}
use lib.ListN.{length, take}
use lib.Seq.{length-take-le}
use Rattle.rules.specs.declared.Card.{Card}
use Rattle.rules.specs.Site.{cells, state_length, card_fits, check}
use Rattle.rules.specs.Step.{new_velocity}
use Rattle.rules.specs.Run.{Stepping, run, run_after}
use Rattle.rules.specs.Pumps.{check_pumped_with, reported, pumped_run_after}
use Rattle.rules.specs.Sheet.{card_in, ground_in, state_in, read_number, no_card}
use Rattle.rules.specs.Calls.{run_outcome, read_answer, read_ground_list, read_state_list}
use Rattle.rules.specs.Play.{refused_line, played_text, played, own_number, play_number, printed}
use Rattle.laws.specs.Tests.{to_T, and_left, and_right}
use Rattle.laws.specs.PumpChecks.{check_own, none_checked}
use Rattle.laws.specs.PumpedSteps.{no_pumps}
use Rattle.laws.specs.Outcomes.{both_passed, if_done_lem, if_refused}
use Rattle.laws.specs.Sheets.{Read, passed, read_facts, length_state_in}
use Rattle.play_number.proofs.Numbers.{small}
use Rattle.play.specs.Lent.{progressed}

-- a list that is cut to a length
pub cut_to : {A : Type 0} (n : ℕ) (l : List A) → n ≤ length l → n ≡ length (take n l)
cut_to n l h = sym (length-take-le n l h)

module _ (l : List ℕ) where
  -- ---- what is printed by it

  pub printed_refused : (play_number l ≡ 0 → ⊥) → refused_line (play_number l) ≡ printed l
  unfolding printed
  printed_refused n = sym (if_refused (play_number l) (played l) (refused_line (play_number l)) n)

  module _ (z : play_number l ≡ 0) where
    pub printed_played : played l ≡ printed l
    unfolding printed
    printed_played = sym (if_done_lem (play_number l) (played l) (refused_line (play_number l)) z)

    -- ---- a sheet that is run: the reader's number is 0, and it is small

    own_and_small : (own_number l ≡ 0) × (small (card_in l) ≡ true)
    unfolding play_number
    own_and_small =
        let own = both_passed (own_number l) _ (passed (leb (length l) 16659) _ 7 z).1 in
        (own.0, (passed (small (card_in l)) 0 7 own.1).0)

    pub sheet_read : Read l (cells (card_in l)) (state_length (card_in l))
    unfolding own_number
    sheet_read = read_facts l (cells (card_in l)) (state_length (card_in l)) own_and_small.0

    pub narrow : (card_in l).columns ≤ 32
    narrow = leb→le _ _ (and_left (leb (card_in l).columns 32) (leb (card_in l).rows 32) (to_T own_and_small.1))

    pub short : (card_in l).rows ≤ 32
    short = leb→le _ _ (and_right (leb (card_in l).columns 32) (leb (card_in l).rows 32) (to_T own_and_small.1))

    pub cells_few : cells (card_in l) ≤ 1024
    cells_few = mul-le-mul short narrow

    pub words_few : state_length (card_in l) ≤ 3136
    unfolding state_length
    words_few =
        let wide : suc (card_in l).columns ≤ 33 = let n = narrow in omega arith in
        let tall : suc (card_in l).rows ≤ 33 = let s = short in omega arith in
        omega (arith, cells_few, mul-le-mul short wide, mul-le-mul tall narrow)

    pub head_long : 19 ≤ length l
    head_long = sheet_read.head.long

    pub card_fits_lem : card_fits (card_in l) ≡ true
    card_fits_lem = sheet_read.card

    -- ---- its lists, read

    module _ (g s : List ℤ) (p : length g ≡ cells (card_in l)) (q : length s ≡ state_length (card_in l)) where
      zero : read_number l (length g) (length s) ≡ 0
      unfolding own_number
      zero = ap₂ (read_number l) p q ∙ own_and_small.0

      pub card_read : (read_answer l g s).card ≡ card_in l
      unfolding read_answer
      card_read = if_done_lem (read_number l (length g) (length s)) (card_in l) no_card zero

      pub ground_read : read_ground_list l g s ≡ ground_in l
      unfolding read_ground_list
      ground_read = if_done_lem (read_number l (length g) (length s)) (ground_in l) g zero

      pub state_read : read_state_list l g s ≡ state_in l
      unfolding read_state_list
      state_read = if_done_lem (read_number l (length g) (length s)) (state_in l) s zero

  -- and run without pumps, with a scratch list as long as the state
  pub played_run : (c : Card) (g s scratch : List ℤ) → c ≡ card_in l → g ≡ ground_in l → s ≡ state_in l → length scratch ≡ state_length (card_in l)
      → played_text c (progressed (run_outcome c g s [] scratch)) ≡ played l
  unfolding played run_outcome run pumped_run_after reported
  played_run c g s scratch p q r e =
      let long : length scratch ≡ length s = e ∙ sym (length_state_in l) ∙ ap length (sym r) in
      let same : check_pumped_with c g s [] (length scratch) ≡ check c g s = ap (check_pumped_with c g s []) long ∙ check_own c g s [] ∙ none_checked c g s in
      ap₂ (λ (k : ℕ) (step : Stepping). played_text c (run_after k step c.steps s)) same (no_pumps new_velocity c g) ∙ cc
