-- The writer's number and what it leaves, from its checks and from what was laid.
use Prim.Native.Nat.{ℕ, ◌+◌, ◌≤◌, ◌<◌}
use mathlib.Core.Path.{◌≡◌, sym, ap, ◌∙◌}
use mathlib.Core.Bool.{Bool, cond, ◌&&◌}
use mathlib.Core.List.{List, ◌++◌}
use native.Mathlib.Nat.{zero-add}
use lib.IntN.{ℤ, pos, negsuc, nat_abs}
use lib.ListN.{length, get_or, drop, length-append}
use lib.Dec.{leb, eqb, leb→le, eqb→eq}
use borrow.Author.Tests.{le-leb, lt-leb}
use Rattle.rules.specs.declared.Card.{Card}
use Rattle.rules.specs.Grid.{all}
use Rattle.rules.specs.Site.{cells, card_fits, ground_fits, grounds_fit, read_ground, first_of}
use Rattle.rules.specs.Raster.{key_lines, raster_text, raster_text_number}
use Rattle.rules.specs.Calls.{write_raster_answer, write_raster_text}
use Rattle.rules.specs.PublicContracts.{WriteRasterContract}
use Rattle.laws.specs.Tests.{to_T, and_left}
use Rattle.laws.specs.Grids.{all_at_lem, all_same}
use Rattle.laws.specs.Values.{grounds_flat}
use Rattle.laws.specs.Between.{between, size_between}
use Rattle.laws.specs.Checks.{apart}
use Rattle.laws.specs.Outcomes.{first_refused, first_passed, if_done_lem, if_refused}
use Rattle.laws.specs.Laid.{laid_front}
use Rattle.print.specs.Appended.{Appended}
use Rattle.raster_writer.specs.Lines.{row_texts, Checked}
use Rattle.raster_writer.proofs.Rows.{all_rows}

-- every ground level in its range
pub grounds_are : (c : Card) (g : List ℤ) → all (cells c) (λ k. between (negsuc 49999999) (pos 50000000) (get_or g (0 + k) (pos 0))) ≡ grounds_fit c (read_ground c g)
grounds_are c g =
    all_same (cells c) (λ k. ground_fits (get_or g k (pos 0))) (λ k. between (negsuc 49999999) (pos 50000000) (get_or g (0 + k) (pos 0)))
    (λ k h. ap (λ (i : ℕ). between (negsuc 49999999) (pos 50000000) (get_or g i (pos 0))) (zero-add k) ∙ size_between 49999999 (get_or g k (pos 0)))
    ∙ sym (grounds_flat c g)

module _ (c : Card) (g : List ℤ) where
  abbrev three : ℕ
  three = first_of (card_fits c) (eqb (length g) (cells c) && eqb c.dx c.dy) (grounds_fit c (read_ground c g))

  -- what passes them
  pub checked : three ≡ 0 → Checked c g
  checked e =
      let p = apart (card_fits c) (eqb (length g) (cells c) && eqb c.dx c.dy) (grounds_fit c (read_ground c g)) e in
      record {
        card = p.card;
        long = eqb→eq (length g) (cells c) (and_left (eqb (length g) (cells c)) (eqb c.dx c.dy) (to_T p.lengths));
        small = λ k h.
            leb→le (nat_abs (get_or g k (pos 0))) 50000000
            (all_at_lem (cells c) (λ k. ground_fits (get_or g k (pos 0))) (to_T (sym (grounds_flat c g) ∙ p.values)) k h);
      }

  -- ---- The whole text, as it is laid

  pub text_is : key_lines c ++ row_texts c g c.rows ≡ raster_text c g
  unfolding raster_text
  text_is = ap (λ (t : List ℕ). key_lines c ++ t) (all_rows c g)

  pub text_long : length (raster_text c g) ≡ length (key_lines c) + length (row_texts c g c.rows)
  text_long = ap length (sym text_is) ∙ length-append (key_lines c) (row_texts c g c.rows)

  -- ---- What is answered and left

  module _ (text : List ℕ) where
    pub by_checks : (three ≡ 0 → ⊥) → three ≡ raster_text_number c g (length text)
    unfolding raster_text_number
    by_checks h = sym (first_refused three (cond (leb (length (raster_text c g)) (length text)) 0 8) h)

    pub no_room : three ≡ 0 → length text < length (raster_text c g) → 8 ≡ raster_text_number c g (length text)
    unfolding raster_text_number
    no_room e h =
        sym (first_passed three (cond (leb (length (raster_text c g)) (length text)) 0 8) e
        ∙ ap (λ (t : Bool). cond t 0 8) (lt-leb (length (raster_text c g)) (length text) h))

    with_room : three ≡ 0 → length (raster_text c g) ≤ length text → raster_text_number c g (length text) ≡ 0
    unfolding raster_text_number
    with_room e h =
        first_passed three (cond (leb (length (raster_text c g)) (length text)) 0 8) e
        ∙ ap (λ (t : Bool). cond t 0 8) (le-leb (length (raster_text c g)) (length text) h)

    pub refused : {number : ℕ} → number ≡ raster_text_number c g (length text) → (number ≡ 0 → ⊥) → WriteRasterContract c g text (record { number = number; size = 0 }) text
    unfolding write_raster_answer write_raster_text
    refused {number} e h =
        let n : (raster_text_number c g (length text) ≡ 0 → ⊥) = λ z. h (e ∙ z) in
        record {
          answer = λ i. record { number = e i; size = sym (if_refused (raster_text_number c g (length text)) (length (raster_text c g)) 0 n) i };
          text_exit = sym (if_refused (raster_text_number c g (length text)) (raster_text c g ++ drop (length (raster_text c g)) text) text n);
        }

    pub done : {end : ℕ} {new : List ℕ} → three ≡ 0 → length (raster_text c g) ≤ length text → Appended (raster_text c g) 0 end text new
        → WriteRasterContract c g text (record { number = 0; size = end }) new
    unfolding write_raster_answer write_raster_text
    done {end} {new} e h p =
        let z = with_room e h in
        record {
          answer = λ i. record {
            number = sym z i;
            size = (p.stop ∙ zero-add (length (raster_text c g)) ∙ sym (if_done_lem (raster_text_number c g (length text)) (length (raster_text c g)) 0 z)) i;
          };
          text_exit =
              p.bytes
              ∙ laid_front text (raster_text c g)
              ∙ sym (if_done_lem (raster_text_number c g (length text)) (raster_text c g ++ drop (length (raster_text c g)) text) text z);
        }
