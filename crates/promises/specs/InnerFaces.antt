-- What is said of every inner face of a site: of the face east of each cell, and of the face north of it, wherever there is one; as a fact and as a test.
use Rattle.std.specs.Prelude.{ℕ, suc, ◌-◌, ◌<◌, Bool, ◌&&◌, T}
use Rattle.std.proofs.Common.{arith}
use Rattle.rules.specs.declared.Card.{Card}
use Rattle.rules.specs.declared.Face.{Face}
use Rattle.rules.specs.Grid.{Field, all_at}
use Rattle.rules.specs.Site.{Water}
use Rattle.rules.specs.Step.{east_face, north_face}
use Rattle.laws.specs.Tests.{and_both, and_left, and_right}
use Rattle.laws.specs.Grids.{all_at_at, all_at_intro}

pub record EveryInner (c : Card) (East North : ℕ → ℕ → Type 0) : Type 0 where
  pub east : (i j : ℕ) → suc i < c.columns → j < c.rows → East i j
  pub north : (i j : ℕ) → i < c.columns → suc j < c.rows → North i j

-- the same of the numbers around each
abbrev pub EveryFace : Card → Field → Water → (Face → Type 0) → Type 0
EveryFace c g w P = EveryInner c (λ i j. P (east_face c g w i j)) (λ i j. P (north_face c g w i j))

-- and as a test; inner faces are counted by their cell K, one fewer than columns or rows
unfoldable pub every_inner : Card → (east north : ℕ → ℕ → Bool) → Bool
every_inner c east north = all_at (c.columns - 1) c.rows east && all_at c.columns (c.rows - 1) north

module _ (c : Card) (east north : ℕ → ℕ → Bool) where
  abbrev easts : Bool
  easts = all_at (c.columns - 1) c.rows east

  abbrev norths : Bool
  norths = all_at c.columns (c.rows - 1) north

  pub inner_at : T (every_inner c east north) → EveryInner c (λ i j. T (east i j)) (λ i j. T (north i j))
  unfolding every_inner
  inner_at t = record {
    east = λ i j hi hj. all_at_at (c.columns - 1) c.rows east (and_left easts norths t) i j (omega arith) hj;
    north = λ i j hi hj. all_at_at c.columns (c.rows - 1) north (and_right easts norths t) i j hi (omega arith);
  }

  pub inner_intro : EveryInner c (λ i j. T (east i j)) (λ i j. T (north i j)) → T (every_inner c east north)
  unfolding every_inner
  inner_intro e =
      and_both easts norths
      (all_at_intro (c.columns - 1) c.rows east (λ i j hi hj. e.east i j (omega arith) hj))
      (all_at_intro c.columns (c.rows - 1) north (λ i j hi hj. e.north i j hi (omega arith)))
