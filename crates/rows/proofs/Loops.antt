-- Loops that put one text after another on a page, and the cells that they read.
use Rattle.std.proofs.Common.{◌≡◌, ℕ, ℤ, suc, ◌+◌, ◌*◌, ◌<◌, ◌≤◌, List, [], ◌++◌, length, sym, ap, ◌∙◌, arith, append-nil, add-one}
use native.Mathlib.Nat.{mul-add, mul-one}
use lib.Arith.{digits_lt}
use Rattle.rules.specs.declared.Card.{Card}
use Rattle.print.proofs.Pages.{put_more}
use Rattle.rows.specs.Rows.{Cell}

-- ---- a cell of a state of at most 32×32 cells

module _ {c : Card} {state : List ℤ} {i j end room : ℕ} (h : Cell c state i j end room) where
  pub cell_index : j * c.columns + i < length state
  cell_index =
      let held = h.rows.held in
      omega (arith, digits_lt h.row h.column)

-- ---- a loop that puts texts of at most so many bytes each: i of them are there

pub record Printing (text : ℕ → List ℕ) (each : ℕ) (old : List ℕ) (i : ℕ) (new : List ℕ) : Type 0 where
  pub shown : new ≡ old ++ text i
  pub far : length new ≤ length old + each * i

module _ {text : ℕ → List ℕ} {each : ℕ} {old : List ℕ} where
  pub printing_none : text 0 ≡ [] → Printing text each old 0 old
  printing_none e = record { shown = sym (append-nil old) ∙ ap (λ (l : List ℕ). old ++ l) (sym e); far = omega arith }

  pub printing_more : {i : ℕ} {mid new : List ℕ} (more : List ℕ) → Printing text each old i mid → text (suc i) ≡ text i ++ more → new ≡ mid ++ more
      → length new ≤ length mid + each → Printing text each old (i + 1) new
  printing_more {i} {mid} {new} more p e q short =
      let next : each * (i + 1) ≡ each * i + each = mul-add each i 1 ∙ ap (λ (k : ℕ). each * i + k) (mul-one each) in
      record {
        shown = put_more old (text i) more p.shown q ∙ ap (λ (l : List ℕ). old ++ l) (sym e ∙ ap text (sym (add-one i)));
        far = omega (arith, p.far, next, short);
      }

  pub printed_all : {i n : ℕ} {new : List ℕ} → Printing text each old i new → i ≡ n → Printing text each old n new
  printed_all {i} {n} {new} p e = rw (← e) p
