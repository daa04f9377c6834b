-- A loop that lays one piece of a text behind the other, and one that adds up how long they are; `text i` is the first i pieces.
use Prim.Native.Nat.{ℕ, zero, suc, ◌+◌, ◌*◌, ◌≤◌, ◌<◌}
use mathlib.Core.Path.{◌≡◌, sym, ap, ◌∙◌, subst}
use mathlib.Core.Logic.{◌⊎◌, inl, inr}
use mathlib.Core.List.{List, [], ◌++◌}
use native.Mathlib.Nat.{suc-mul, mul-le-mul, le_refl, eq-or-lt_of_le}
use native.Mathlib.Numerals.{add-one}
use native.Mathlib.Omega.{arith}
use lib.ListN.{length}
use Rattle.print.specs.Appended.{Appended}
use Rattle.print.proofs.Laws.{appended_more, appended_same, appended_none, appended_length}

-- what is laid first is with its next piece not longer than all
pub piece_within : (text piece : ℕ → List ℕ) → ((n : ℕ) → length (text (n + 1)) ≡ length (text n) + length (piece n)) → (i n : ℕ) → i < n → length (text i) + length (piece i) ≤ length (text n)
piece_within text piece e i zero h = absurd (omega arith)
piece_within text piece e i (suc n) h = go (λ l. piece_within text piece e i n l) (eq-or-lt_of_le (let k : i ≤ n = omega arith in k))
  where
    last : length (text (suc n)) ≡ length (text n) + length (piece n)
    last = ap (λ (k : ℕ). length (text k)) (sym (add-one n)) ∙ e n

    go : (i < n → length (text i) + length (piece i) ≤ length (text n)) → (i ≡ n) ⊎ (i < n) → length (text i) + length (piece i) ≤ length (text (suc n))
    go before (inl f) = rw f (omega (arith, last))
    go before (inr l) = omega (arith, last, before l)

pub record Laying (text : ℕ → List ℕ) (n at : ℕ) (old new : List ℕ) (end i : ℕ) : Type 0 where
  pub most : i ≤ n
  pub laid_so : Appended (text i) at end old new

pub record Summing (text : ℕ → List ℕ) (n each size i : ℕ) : Type 0 where
  pub most : i ≤ n
  pub is : size ≡ length (text i)
  pub few : size ≤ i * each

module _ {text : ℕ → List ℕ} {n at : ℕ} {old : List ℕ} where
  pub lay_none : text 0 ≡ [] → Laying text n at old old at 0
  lay_none e = record { most = omega arith; laid_so = appended_same (sym e) appended_none }

  -- there is room for the next piece, if there is for all of them
  module _ {new : List ℕ} {end i : ℕ} (g : Laying text n at old new end i) (room : at + length (text n) ≤ length old) (piece : List ℕ) (within : length (text i) + length piece ≤ length (text n)) where
    reach : end + length piece ≤ length old
    reach = omega (arith, g.laid_so.stop, room, within)

    pub lay_room : end + length piece ≤ length new
    lay_room = omega (arith, reach, appended_length g.laid_so (omega (arith, reach)))

    pub lay_more : {new' : List ℕ} {end' : ℕ} → i < n → text (i + 1) ≡ text i ++ piece → Appended piece end end' new new' → Laying text n at old new' end' (i + 1)
    lay_more h e p = record { most = omega arith; laid_so = appended_same (sym e) (appended_more g.laid_so p (omega (arith, reach))) }

  pub lay_all : {new : List ℕ} {end i : ℕ} → Laying text n at old new end i → n ≤ i → Appended (text n) at end old new
  lay_all {new} {end} {i} g h = subst (λ (k : ℕ). Appended (text k) at end old new) (let m = g.most in let e : i ≡ n = omega arith in e) g.laid_so

-- the list stays as long as it was
pub whole_length : {t : List ℕ} {at end : ℕ} {old new : List ℕ} → Appended t at end old new → at + length t ≤ length old → length new ≡ length old
whole_length p room = appended_length p (omega (arith, p.stop, room))

module _ {text : ℕ → List ℕ} {n each : ℕ} where
  pub sum_none : text 0 ≡ [] → Summing text n each 0 0
  sum_none e = record { most = omega arith; is = sym (ap length e); few = omega arith }

  pub sum_more : {size i piece : ℕ} → Summing text n each size i → i < n → length (text (i + 1)) ≡ length (text i) + piece → piece ≤ each → Summing text n each (size + piece) (i + 1)
  sum_more {size} {i} {piece} g h e f = record {
    most = omega arith;
    is = omega (arith, g.is, e);
    few = rw (add-one i, suc-mul i each) (omega (arith, g.few, f));
  }

  -- and it stays below all pieces of the greatest length
  pub sum_most : {size i : ℕ} → Summing text n each size i → size ≤ n * each
  sum_most {size} {i} g = omega (arith, g.few, mul-le-mul g.most (le_refl each))

  pub sum_all : {size i : ℕ} → Summing text n each size i → n ≤ i → size ≡ length (text n)
  sum_all {size} {i} g h = g.is ∙ ap (λ (k : ℕ). length (text k)) (let m = g.most in let e : i ≡ n = omega arith in e)
