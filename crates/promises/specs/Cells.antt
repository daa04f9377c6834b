-- A cell by its column and its row, and a turn that takes each cell back when it is taken twice: it takes no two to one, and leaves none out.
use Rattle.std.specs.Prelude.{ℕ, ◌+◌, ◌*◌, ◌/◌, ◌%◌, ◌<◌, ◌≡◌}
use Rattle.std.proofs.Common.{sym, ap, ◌∙◌, subst, mod-lt, div-lt_iff_lt-mul, div-add-mod'}
use Rattle.std.proofs.Math.Arith.{digits_div, digits_mod}
use Rattle.rules.specs.declared.Card.{Card}
use Rattle.rules.specs.Site.{cells}
use Rattle.rules.specs.Turn.{Turn}
use Rattle.laws.specs.Grids.{pos_columns}
use Rattle.promises.specs.Turning.{ComesFrom}

-- cell k of a site: it stands in this column and this row
pub record At (c : Card) (k : ℕ) : Type 0 where
  pub column : k % c.columns < c.columns
  pub row : k / c.columns < c.rows
  pub is : k / c.columns * c.columns + k % c.columns ≡ k

pub at : (c : Card) (k : ℕ) → k < cells c → At c k
at c k h =
    let p = pos_columns c.columns c.rows k h in
    record { column = mod-lt k p; row = (div-lt_iff_lt-mul p).1 h; is = div-add-mod' k c.columns }

-- where a cell goes, given the column and the row that it goes to; taken back by what reads these two
pub read_back : {A : Type 0} (f : ℕ → ℕ → A) (m i j : ℕ) → i < m → f ((j * m + i) % m) ((j * m + i) / m) ≡ f i j
read_back f m i j h = ap (λ (x : ℕ). f x ((j * m + i) / m)) (digits_mod j h) ∙ ap (f i) (digits_div j h)

module _ (t : Turn) (cards : (c : Card) → t.card (t.card c) ≡ c)
    (places : (c : Card) (k : ℕ) → k < cells c → t.cell c k < cells (t.card c))
    (twice : (c : Card) (k : ℕ) → k < cells c → t.cell (t.card c) (t.cell c k) ≡ k) where
  pub told_apart : (c : Card) (k l : ℕ) → k < cells c → l < cells c → t.cell c k ≡ t.cell c l → k ≡ l
  told_apart c k l hk hl e = sym (twice c k hk) ∙ ap (t.cell (t.card c)) e ∙ twice c l hl

  pub comes_from : (c : Card) (m : ℕ) → m < cells (t.card c) → ComesFrom t c m
  comes_from c m h = record {
    cell = t.cell (t.card c) m;
    held = subst (λ (d : Card). t.cell (t.card c) m < cells d) (cards c) (places (t.card c) m h);
    is = subst (λ (d : Card). t.cell d (t.cell (t.card c) m) ≡ m) (cards c) (twice (t.card c) m h);
  }
