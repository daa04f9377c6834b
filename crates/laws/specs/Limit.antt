-- What the step limit gives: what leaves a cell in one step is at most what the cell holds (`leaves_at_most`). Whatever else rests on the limit rests on this law.
use Prim.Native.Nat.{ℕ, zero, suc, ◌+◌, ◌*◌, ◌/◌, ◌≤◌, ◌<◌, zero-le}
use Rattle.std.specs.Prelude.{◌≡◌, ℤ, pos, negsuc, nat_abs, T}
use Rattle.std.proofs.Common.{le_refl, le_trans, le_of_eq, add-le-add, add-mul, mul-le-mul, div-mul-le_self, mul-le-mul_right, mul-le-mul_left, le_of_mul-le-mul_right, arith, leb→le}
use Rattle.rules.specs.declared.Card.{Card}
use Rattle.rules.specs.Site.{Water}
use Rattle.rules.specs.Step.{walled, transfer, east_transfer, north_transfer, forward, backward, within_limit}
use Rattle.laws.specs.Walls.{behind_has, everywhere}
use Rattle.laws.specs.Outward.{forward-neg, backward-neg}

-- ---- what leaves cell (i, j) in one step: over each of its four faces what crosses it, if it crosses out of the cell

unfoldable pub leaving : Card → Water → ℕ → ℕ → ℕ
leaving c w i j = backward (east_transfer c w i j) + forward (east_transfer c w (suc i) j) + backward (north_transfer c w i j) + forward (north_transfer c w i (suc j))

-- ---- the numbers: h being what a cell holds, and w, e, s, n how fast it leaves on each side

total : (a b c d x A B C D e : ℕ) → a * x ≤ A → b * x ≤ B → c * x ≤ C → d * x ≤ D → A + B + C + D ≤ e → (a + b + c + d) * x ≤ e
total a b c d x A B C D e p q r t m = rw (add-mul (a + b + c) d x, add-mul (a + b) c x, add-mul a b x) (omega arith)

spread : (h dt dx dy w e s n : ℕ) → h * w * dt * dy + h * e * dt * dy + h * s * dt * dx + h * n * dt * dx ≡ h * (dt * ((w + e) * dy + (s + n) * dx))
spread h dt dx dy w e s n = omega arith

by_x : (a dx dy : ℕ) → a * (1000 * dx) * dy ≡ a * (1000 * (dx * dy))
by_x a dx dy = omega arith

by_y : (a dx dy : ℕ) → a * (1000 * dy) * dx ≡ a * (1000 * (dx * dy))
by_y a dx dy = omega arith

weighed : (h dt dx dy w e s n a b c d : ℕ)
    → a * (1000 * dx) * dy ≤ h * w * dt * dy → b * (1000 * dx) * dy ≤ h * e * dt * dy
    → c * (1000 * dy) * dx ≤ h * s * dt * dx → d * (1000 * dy) * dx ≤ h * n * dt * dx
    → h * (dt * ((w + e) * dy + (s + n) * dx)) ≤ h * (1000 * (dx * dy))
    → (a + b + c + d) * (1000 * (dx * dy)) ≤ h * (1000 * (dx * dy))
weighed h dt dx dy w e s n a b c d p q r t m =
    total a b c d (1000 * (dx * dy)) _ _ _ _ _ (rw (by_x a dx dy) at p) (rw (by_x b dx dy) at q) (rw (by_y c dx dy) at r) (rw (by_y d dx dy) at t)
    (rw (spread h dt dx dy w e s n) m)

spent : (h dt dx dy w e s n : ℕ) → 0 < dx → 0 < dy → dt * ((w + e) * dy + (s + n) * dx) ≤ 1000 * (dx * dy)
    → h * w * dt / (1000 * dx) + h * e * dt / (1000 * dx) + h * s * dt / (1000 * dy) + h * n * dt / (1000 * dy) ≤ h
spent h dt dx dy w e s n hx hy l =
    let a = mul-le-mul_right dy (div-mul-le_self (h * w * dt) (1000 * dx)) in
    let b = mul-le-mul_right dy (div-mul-le_self (h * e * dt) (1000 * dx)) in
    let c = mul-le-mul_right dx (div-mul-le_self (h * s * dt) (1000 * dy)) in
    let d = mul-le-mul_right dx (div-mul-le_self (h * n * dt) (1000 * dy)) in
    let m = mul-le-mul_left h l in
    let z : 1 * 1 ≤ dx * dy = mul-le-mul hx hy in
    le_of_mul-le-mul_right {k = 1000 * (dx * dy)} (weighed h dt dx dy w e s n _ _ _ _ a b c d m) (omega arith)

-- ---- a transfer: what crosses forward comes from K, at the face's speed forward; what crosses backward comes from L, at its speed backward

crossed_forward : (dt d : ℕ) (h_k h_l u : ℤ) → forward (transfer dt d h_k h_l u) ≤ nat_abs h_k * forward u * dt / (1000 * d)
unfolding transfer forward backward
crossed_forward dt d h_k h_l (pos zero) = zero-le
crossed_forward dt d h_k h_l (pos (suc n)) = le_refl (nat_abs h_k * suc n * dt / (1000 * d))
crossed_forward dt d h_k h_l (negsuc n) = le_trans (le_of_eq (forward-neg (pos (nat_abs h_l * suc n * dt / (1000 * d))))) zero-le

crossed_backward : (dt d : ℕ) (h_k h_l u : ℤ) → backward (transfer dt d h_k h_l u) ≤ nat_abs h_l * backward u * dt / (1000 * d)
unfolding transfer forward backward
crossed_backward dt d h_k h_l (pos zero) = zero-le
crossed_backward dt d h_k h_l (pos (suc n)) = zero-le
crossed_backward dt d h_k h_l (negsuc n) = le_of_eq (backward-neg (pos (nat_abs h_l * suc n * dt / (1000 * d))))

-- ---- along a row or a column of n cells with heights h and velocities u: what crosses out of its cell i over the far face, and over the near one

module _ (dt d n : ℕ) (h u : ℕ → ℤ) where
  abbrev crossing : ℕ → ℤ
  crossing = walled n (λ k. transfer dt d (h k) (h (suc k)) (u (suc k)))

  -- what cell i sends over a face at this speed
  abbrev sends : (i speed : ℕ) → ℕ
  sends i speed = nat_abs (h i) * speed * dt / (1000 * d)

  over_far : (i : ℕ) → forward (crossing (suc i)) ≤ sends i (forward (u (suc i)))
  unfolding forward
  over_far i =
      behind_has n _ (λ x. forward x ≤ sends i (forward (u (suc i)))) zero-le i (λ l. crossed_forward dt d (h i) (h (suc i)) (u (suc i)))

  over_near : (i : ℕ) → backward (crossing i) ≤ sends i (backward (u i))
  unfolding backward
  over_near =
      everywhere n _ (λ k x. backward x ≤ sends k (backward (u k))) (λ k. zero-le) (λ k l. crossed_backward dt d (h k) (h (suc k)) (u (suc k)))

-- ---- the law

pub leaves_at_most : (c : Card) (w : Water) (i j : ℕ) → 0 < c.dx → 0 < c.dy → T (within_limit c w i j) → leaving c w i j ≤ nat_abs (w.height i j)
unfolding leaving within_limit east_transfer north_transfer
leaves_at_most c w i j side_x side_y l =
    le_trans
    (add-le-add
    (add-le-add
    (add-le-add
    (over_near c.dt c.dx c.columns (λ k. w.height k j) (λ k. w.east k j) i)
    (over_far c.dt c.dx c.columns (λ k. w.height k j) (λ k. w.east k j) i))
    (over_near c.dt c.dy c.rows (w.height i) (w.north i) j))
    (over_far c.dt c.dy c.rows (w.height i) (w.north i) j))
    (spent (nat_abs (w.height i j)) c.dt c.dx c.dy (backward (w.east i j)) (forward (w.east (suc i) j)) (backward (w.north i j)) (forward (w.north i (suc j))) side_x side_y
    (leb→le _ _ l))
