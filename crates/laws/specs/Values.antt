-- The tests of a site's values by column and row, each as one test along the flat list.
use Rattle.std.specs.Prelude.{ℕ, suc, ◌+◌, ◌*◌, ◌-◌, ◌≡◌, Bool, ◌&&◌, List, ℤ, pos, negsuc, get_or}
use Rattle.std.proofs.Common.{sym, ap₂, ◌∙◌, zero-add, add-one, arith}
use Rattle.rules.specs.declared.Card.{Card}
use Rattle.rules.specs.Grid.{all}
use Rattle.rules.specs.Site.{cells, state_length, read_ground, read_state, ground_fits, height_fits, speed_fits, is_zero, grounds_fit, heights_fit, velocities_fit, walls_still, values_fit}
use Rattle.laws.specs.Between.{between, size_between}
use Rattle.laws.specs.Grids.{all_same}
use Rattle.laws.specs.Flat.{flat, all_add}

pub grounds_flat : (c : Card) (g : List ℤ) → grounds_fit c (read_ground c g) ≡ all (c.rows * c.columns) (λ k. ground_fits (get_or g k (pos 0)))
unfolding grounds_fit read_ground
grounds_flat c g = flat c.columns c.rows (λ k. ground_fits (get_or g k (pos 0)))

pub depths_flat : (c : Card) (s : List ℤ) → heights_fit c (read_state c s) ≡ all (c.rows * c.columns) (λ k. height_fits (get_or s k (pos 0)))
unfolding heights_fit read_state
depths_flat c s = flat c.columns c.rows (λ k. height_fits (get_or s k (pos 0)))

-- eastward and northward velocities as one band behind the heights
pub faces_flat : (c : Card) (s : List ℤ)
    → velocities_fit c (read_state c s) ≡ all (c.rows * suc c.columns + suc c.rows * c.columns) (λ k. speed_fits (get_or s (c.rows * c.columns + k) (pos 0)))
unfolding velocities_fit read_state
faces_flat c s =
    let east = c.rows * suc c.columns in
    let fits : ℕ → Bool = λ k. speed_fits (get_or s (c.rows * c.columns + k) (pos 0)) in
    ap₂ ◌&&◌ (flat (suc c.columns) c.rows fits) (flat c.columns (suc c.rows) (λ k. fits (east + k)))
    ∙ sym (all_add east (suc c.rows * c.columns) fits)

-- ---- all four tests of the values as the code makes them: three bands of words, each between two ends, and the walls

-- the words of a list from `base` on, under two tests that agree
agree : (n base : ℕ) (l : List ℤ) (p q : ℤ → Bool) → ((z : ℤ) → q z ≡ p z) → all n (λ k. q (get_or l (base + k) (pos 0))) ≡ all n (λ k. p (get_or l (base + k) (pos 0)))
agree n base l p q h = all_same n (λ k. p (get_or l (base + k) (pos 0))) (λ k. q (get_or l (base + k) (pos 0))) (λ k b. h (get_or l (base + k) (pos 0)))

from_0 : (n : ℕ) (l : List ℤ) (p : ℤ → Bool) → all n (λ k. p (get_or l (0 + k) (pos 0))) ≡ all n (λ k. p (get_or l k (pos 0)))
from_0 n l p = all_same n (λ k. p (get_or l k (pos 0))) (λ k. p (get_or l (0 + k) (pos 0))) (λ k b. rw zero-add)

faces : (c : Card) → state_length c - cells c ≡ c.rows * suc c.columns + suc c.rows * c.columns
unfolding state_length
faces c = omega arith

pub values_joined : (c : Card) (g s : List ℤ) {grounds depths speeds walls : Bool}
    → grounds ≡ all (cells c) (λ k. between (negsuc 49999999) (pos 50000000) (get_or g (0 + k) (pos 0)))
    → depths ≡ all (cells c) (λ k. between (pos 0) (pos 50000000) (get_or s (0 + k) (pos 0)))
    → speeds ≡ all (state_length c - cells c) (λ k. between (negsuc 19999999) (pos 20000000) (get_or s (cells c + k) (pos 0)))
    → walls ≡ walls_still c (read_state c s)
    → (grounds && depths && speeds && walls) ≡ values_fit c (read_ground c g) (read_state c s)
unfolding values_fit
values_joined c g s {speeds = v} p q r w =
    let e₁ = p ∙ agree (cells c) 0 g _ _ (size_between 49999999) ∙ from_0 (cells c) g ground_fits ∙ sym (grounds_flat c g) in
    let e₂ = q ∙ from_0 (cells c) s height_fits ∙ sym (depths_flat c s) in
    let e₃ : v ≡ velocities_fit c (read_state c s) = r ∙ rw (faces c) (agree _ (cells c) s _ _ (size_between 19999999) ∙ sym (faces_flat c s)) in
    cc (e₁, e₂, e₃, w)

-- the four walls as they stand in the list: in each row its first and its last eastward face, and the first and the last row of northward ones
still_same : (n : ℕ) (s : List ℤ) (f h f' h' : ℕ → ℕ) → ((k : ℕ) → f k ≡ f' k) → ((k : ℕ) → h k ≡ h' k)
    → all n (λ k. is_zero (get_or s (f k) (pos 0)) && is_zero (get_or s (h k) (pos 0))) ≡ all n (λ k. is_zero (get_or s (f' k) (pos 0)) && is_zero (get_or s (h' k) (pos 0)))
still_same n s f h f' h' p q =
    all_same n (λ k. is_zero (get_or s (f' k) (pos 0)) && is_zero (get_or s (h' k) (pos 0))) (λ k. is_zero (get_or s (f k) (pos 0)) && is_zero (get_or s (h k) (pos 0)))
    (λ k b. ap₂ (λ (x y : ℕ). is_zero (get_or s x (pos 0)) && is_zero (get_or s y (pos 0))) (p k) (q k))

pub walls_flat : (c : Card) (s : List ℤ)
    → walls_still c (read_state c s)
    ≡ (all c.rows (λ k. is_zero (get_or s (c.rows * c.columns + k * (c.columns + 1)) (pos 0)) && is_zero (get_or s (c.rows * c.columns + c.columns + k * (c.columns + 1)) (pos 0)))
    && all c.columns
    (λ k. is_zero (get_or s (c.rows * c.columns + c.rows * (c.columns + 1) + k * 1) (pos 0)) && is_zero (get_or s (c.rows * c.columns + c.rows * (c.columns + 1) + c.rows * c.columns + k * 1) (pos 0))))
unfolding walls_still read_state
walls_flat c s =
    rw add-one
    (ap₂ ◌&&◌ (still_same c.rows s _ _ _ _ (λ k. omega arith) (λ k. omega arith)) (still_same c.columns s _ _ _ _ (λ k. omega arith) (λ k. omega arith)))
