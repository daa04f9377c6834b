-- The front of a state, its heights, and the part behind them: what each is, and that two states which agree behind the heights have the same faces.
use Rattle.std.specs.Prelude.{◌≡◌, List, ◌++◌, ℤ, pos, get_or, take, drop}
use Rattle.std.proofs.Common.{sym, ap, ◌∙◌, take_at, drop_at, get_or-drop}
use Prim.Native.Nat.{ℕ, suc, ◌+◌, ◌*◌}
use Rattle.rules.specs.declared.Card.{Card}
use Rattle.rules.specs.Grid.{grid}
use Rattle.rules.specs.Site.{Water, read_state, write_state}
use Rattle.laws.specs.Grids.{length-grid}

pub behind_heights : (c : Card) (w : Water)
    → drop (c.rows * c.columns) (write_state c w) ≡ grid (suc c.columns) c.rows w.east ++ grid c.columns (suc c.rows) w.north
unfolding write_state
behind_heights c w = drop_at (grid c.columns c.rows w.height) _ (c.rows * c.columns) (length-grid c.columns c.rows w.height)

pub front_heights : (c : Card) (w : Water) → take (c.rows * c.columns) (write_state c w) ≡ grid c.columns c.rows w.height
unfolding write_state
front_heights c w = take_at (grid c.columns c.rows w.height) _ (c.rows * c.columns) (length-grid c.columns c.rows w.height)

read_alike : (n k : ℕ) (s t : List ℤ) → drop n s ≡ drop n t → get_or s (n + k) (pos 0) ≡ get_or t (n + k) (pos 0)
read_alike n k s t e = sym (get_or-drop n s k (pos 0)) ∙ ap (λ (l : List ℤ). get_or l k (pos 0)) e ∙ get_or-drop n t k (pos 0)

module _ (c : Card) (s t : List ℤ) (e : drop (c.rows * c.columns) s ≡ drop (c.rows * c.columns) t) (i j : ℕ) where
  pub east_alike : (read_state c s).east i j ≡ (read_state c t).east i j
  unfolding read_state
  east_alike = read_alike (c.rows * c.columns) (j * suc c.columns + i) s t e

  pub north_alike : (read_state c s).north i j ≡ (read_state c t).north i j
  unfolding read_state
  north_alike = read_alike (c.rows * c.columns) (c.rows * suc c.columns + (j * c.columns + i)) s t e
