-- Document 01, "One step": the decoupled staggered scheme of document 002 in whole numbers. The numbers in brackets are document 002's equations.
use Rattle.std.specs.Prelude.{ℕ, zero, suc, ◌+◌, ◌*◌, ◌/◌, Bool, true, false, cond, ◌&&◌, ◌||◌, List, ℤ, pos, negsuc, neg_ℤ, nat_abs, ◌+ℤ◌, ◌-ℤ◌, ◌*ℤ◌, leb, ltb}
use Rattle.std.specs.Int.Signed.{le_z, quot_z}
use Rattle.rules.specs.declared.Card.{Card}
use Rattle.rules.specs.declared.Face.{Face}
use Rattle.rules.specs.Grid.{Field, all_at}
use Rattle.rules.specs.Site.{Water, read_ground, read_state, write_state, speed_fits, is_zero}

-- ---- Walls and inner faces along a row or a column of n cells

-- Faces 0 and n are the walls: 0 there. Face k + 1 lies between the cells k (its K) and k + 1 (its L): f k there.
unfoldable pub walled : (n : ℕ) (f : ℕ → ℤ) → ℕ → ℤ
walled n f zero = pos 0
walled n f (suc k) = cond (ltb (suc k) n) (f k) (pos 0)

-- ---- Transfer: what crosses a face in one step, (10) with its upwind choice

-- the sign of u, and the size floor(h · |u| · dt / (1000 · d)), h being K's height if u > 0, L's if u < 0; d is dx for an eastward face, dy for a northward one
unfoldable pub transfer : (dt d : ℕ) (h_k h_l u : ℤ) → ℤ
transfer dt d h_k h_l (pos zero) = pos 0
transfer dt d h_k h_l (pos (suc n)) = pos (nat_abs h_k * suc n * dt / (1000 * d))
transfer dt d h_k h_l (negsuc n) = neg_ℤ (pos (nat_abs h_l * suc n * dt / (1000 * d)))

-- over each eastward and each northward face; 0 on walls
unfoldable pub east_transfer : Card → Water → Field
east_transfer c w i j = walled c.columns (λ k. transfer c.dt c.dx (w.height k j) (w.height (suc k) j) (w.east (suc k) j)) i

unfoldable pub north_transfer : Card → Water → Field
north_transfer c w i j = walled c.rows (λ k. transfer c.dt c.dy (w.height i k) (w.height i (suc k)) (w.north i (suc k))) j

-- ---- Step limit, (18) multiplied out, a face counting only in the cell that its velocity points out of (document 02, [9]):
-- dt · ((west, if it points west, plus east, if it points east) · dy + (south, if it points south, plus north, if it points north) · dx) ≤ 1000 · dx · dy

-- the size of a velocity that points east or north, else 0; and so of what crosses a face, or flows over a dual edge, and of a pump's amount ([10]), if it is an inlet's
unfoldable pub forward : ℤ → ℕ
forward (pos n) = n
forward (negsuc n) = 0

-- the size of one that points west or south, else 0; of an amount, if it is to be taken away
unfoldable pub backward : ℤ → ℕ
backward (pos n) = 0
backward (negsuc n) = suc n

unfoldable pub within_limit : Card → Water → ℕ → ℕ → Bool
within_limit c w i j =
    leb (c.dt * ((backward (w.east i j) + forward (w.east (suc i) j)) * c.dy + (backward (w.north i j) + forward (w.north i (suc j))) * c.dx))
    (1000 * (c.dx * c.dy))

-- ---- New height, (7b): the old one, less T out, plus T in, over four faces

unfoldable pub new_height : Card → Water → Field
new_height c w i j =
    w.height i j +ℤ east_transfer c w i j -ℤ east_transfer c w (suc i) j +ℤ north_transfer c w i j -ℤ north_transfer c w i (suc j)

-- ---- The numbers around one inner face, between its cells K and L
--
--                        u_above
--                   above_k    above_l
--                 +---------+---------+
--        u_behind  |         |         |  u_ahead         face          along: from behind to ahead   across: from below to above
--         behind  |    K   own   L    |  ahead          eastward      from west to east             from south to north
--                 |         u         |                 northward     from south to north           from west to east
--                 +---------+---------+
--                   below_k    below_l
--                        u_below
--
-- Drawn for an eastward face; a northward one is this mirrored on the diagonal, L north of K and `above` in the east.
-- `own`, `ahead`, `behind`, `above_k` .. `below_l` are what crosses the faces drawn; `u`, `u_ahead`, `u_behind`, `u_above`, `u_below` are the velocities of the face
-- and of its parallel faces.

-- f one row (or column) on from j, of n in all, and f one back from j; beyond a side wall there is none, and 0 stands for it
unfoldable pub after : ℕ → (ℕ → ℤ) → ℕ → ℤ
after n f j = cond (ltb (suc j) n) (f (suc j)) (pos 0)

unfoldable pub before : (ℕ → ℤ) → ℕ → ℤ
before f zero = pos 0
before f (suc j) = f j

-- The eastward face (i + 1, j): K is cell (i, j), L is cell (i + 1, j)
unfoldable pub east_face : Card → Field → Water → ℕ → ℕ → Face
east_face c g w i j = record {
  old_k = w.height i j;
  old_l = w.height (suc i) j;
  new_k = new_height c w i j;
  new_l = new_height c w (suc i) j;
  ground_k = g i j;
  ground_l = g (suc i) j;
  -- the face itself; the next ones east and west, of which a wall gives 0
  own = east_transfer c w (suc i) j;
  ahead = east_transfer c w (suc (suc i)) j;
  behind = east_transfer c w i j;
  -- north of K and of L, south of K and of L; a wall gives 0
  above_k = north_transfer c w i (suc j);
  above_l = north_transfer c w (suc i) (suc j);
  below_k = north_transfer c w i j;
  below_l = north_transfer c w (suc i) j;
  -- the face itself; the next ones east and west, of which a wall gives 0, by the third check
  u = w.east (suc i) j;
  u_ahead = w.east (suc (suc i)) j;
  u_behind = w.east i j;
  -- the faces north and south of it; beyond the last row and before the first there is none
  u_above = after c.rows (λ r. w.east (suc i) r) j;
  u_below = before (λ r. w.east (suc i) r) j;
}

-- The northward face (i, j + 1): K is cell (i, j), L is cell (i, j + 1)
unfoldable pub north_face : Card → Field → Water → ℕ → ℕ → Face
north_face c g w i j = record {
  old_k = w.height i j;
  old_l = w.height i (suc j);
  new_k = new_height c w i j;
  new_l = new_height c w i (suc j);
  ground_k = g i j;
  ground_l = g i (suc j);
  -- the face itself; the next ones north and south, of which a wall gives 0
  own = north_transfer c w i (suc j);
  ahead = north_transfer c w i (suc (suc j));
  behind = north_transfer c w i j;
  -- east of K and of L, west of K and of L; a wall gives 0
  above_k = east_transfer c w (suc i) j;
  above_l = east_transfer c w (suc i) (suc j);
  below_k = east_transfer c w i j;
  below_l = east_transfer c w i (suc j);
  -- the face itself; the next ones north and south, of which a wall gives 0, by the third check
  u = w.north i (suc j);
  u_ahead = w.north i (suc (suc j));
  u_behind = w.north i j;
  -- the faces east and west of it; beyond the last column and before the first there is none
  u_above = after c.columns (λ r. w.north r (suc j)) i;
  u_below = before (λ r. w.north r (suc j)) i;
}

-- ---- Carried momentum: the convection term of (7d)

-- The flow over each dual edge, out of the face's cell, each the sum of two transfers and so doubled: along the direction of u, (15),
unfoldable pub out_ahead : Face → ℤ
out_ahead f = f.own +ℤ f.ahead

unfoldable pub out_behind : Face → ℤ
out_behind f = neg_ℤ (f.own +ℤ f.behind)

-- and across it, (16): the two side faces of K and L on that side
unfoldable pub out_above : Face → ℤ
out_above f = f.above_k +ℤ f.above_l

unfoldable pub out_below : Face → ℤ
out_below f = neg_ℤ (f.below_k +ℤ f.below_l)

-- a flow if it is positive, which is out of the face's cell, else 0
unfoldable pub positive : ℤ → ℤ
positive flow = pos (forward flow)

-- old sum H = h_k + h_l, and new sum H'
abbrev pub old_sum : Face → ℤ
old_sum f = f.old_k +ℤ f.old_l

abbrev pub new_sum : Face → ℤ
new_sum f = f.new_k +ℤ f.new_l

-- all flow out
abbrev pub all_flow_out : Face → ℤ
all_flow_out f = positive (out_ahead f) +ℤ positive (out_behind f) +ℤ (positive (out_above f) +ℤ positive (out_below f))

-- own share: H less all flow out
unfoldable pub own_share : Face → ℤ
own_share f = old_sum f -ℤ all_flow_out f

-- flow in, which is a flow out that is negative, turned round
abbrev pub flow_in : (out : ℤ) → ℤ
flow_in out = positive (neg_ℤ out)

-- all flow in: with the own share it makes up H', by the balance (13)
abbrev pub all_flow_in : Face → ℤ
all_flow_in f = flow_in (out_ahead f) +ℤ flow_in (out_behind f) +ℤ (flow_in (out_above f) +ℤ flow_in (out_below f))

-- flow in, times the velocity of the parallel face that it comes from; a wall face gives 0, its velocity being 0
unfoldable pub brought : (out v : ℤ) → ℤ
brought out v = flow_in out *ℤ v

-- A = own share · u + the sum of flow in · its velocity
unfoldable pub carried : Face → ℤ
carried f =
    own_share f *ℤ f.u
    +ℤ (brought (out_ahead f) f.u_ahead +ℤ brought (out_behind f) f.u_behind +ℤ (brought (out_above f) f.u_above +ℤ brought (out_below f) f.u_below))

-- ---- Slope: the pressure and ground terms of (7d), with (7c) and (17), taken together; H' cancels.
-- S = trunc(9,806,650 · dt · ((h_l' + z_l) − (h_k' + z_k)) / (1000 · d)); `quot_z` is the quotient towards zero

-- the new surface, new height plus ground, in K and in L
abbrev pub surface_k : Face → ℤ
surface_k f = f.new_k +ℤ f.ground_k

abbrev pub surface_l : Face → ℤ
surface_l f = f.new_l +ℤ f.ground_l

-- how much higher the new surface stands in L than in K
unfoldable pub rise : Face → ℤ
rise f = surface_l f -ℤ surface_k f

-- S, of a rise r
unfoldable pub slope : (dt d : ℕ) (r : ℤ) → ℤ
slope dt d r = quot_z (pos (9806650 * dt) *ℤ r) (pos (1000 * d))

-- ---- Dry banks (document 02, [2]): one of a face's cells is dry after the step and its ground is at or above the other's new surface

-- a cell, by its new height and its ground, beside the other cell's new surface
unfoldable pub is_bank : (height land surface : ℤ) → Bool
is_bank h z surface = is_zero h && le_z surface z

-- K beside L, and L beside K
abbrev pub bank_k : Face → Bool
bank_k f = is_bank f.new_k f.ground_k (surface_l f)

abbrev pub bank_l : Face → Bool
bank_l f = is_bank f.new_l f.ground_l (surface_k f)

unfoldable pub dry_bank : Face → Bool
dry_bank f = bank_k f || bank_l f

-- ---- New velocity, (7d): 0 if H' = 0 or one of the cells is a dry bank, otherwise trunc(A / H') − S

-- the carried part, before the slope is taken off
abbrev pub carried_part : Face → ℤ
carried_part f = quot_z (carried f) (new_sum f)

-- a rule for the new velocity of an inner face
abbrev pub Rule : Type 0
Rule = (dt d : ℕ) → Face → ℤ

-- by what gives a face its rise: the textbook engine (document 02, [5]) has a way of its own (Textbook.antt)
unfoldable pub new_velocity_by : (by : Face → ℤ) → Rule
new_velocity_by by dt d f = cond (is_zero (new_sum f) || dry_bank f) (pos 0) (carried_part f -ℤ slope dt d (by f))

-- the first engine's: document 01's, with [2]'s banks
abbrev pub new_velocity : Rule
new_velocity = new_velocity_by rise

-- ---- The next state, over the rule that gives an inner face its new velocity

-- of each eastward and each northward face; walls stay 0
unfoldable pub new_east : Rule → Card → Field → Water → Field
new_east rule c g w i j = walled c.columns (λ k. rule c.dt c.dx (east_face c g w k j)) i

unfoldable pub new_north : Rule → Card → Field → Water → Field
new_north rule c g w i j = walled c.rows (λ k. rule c.dt c.dy (north_face c g w i k)) j

-- heights come first; velocities use old transfers and new heights
unfoldable pub next : Rule → Card → Field → Water → Water
next rule c g w = record { height = new_height c w; east = new_east rule c g w; north = new_north rule c g w }

-- ---- The step's number: 0, or the lowest of 4, 5 and 7 that applies. 6 is unused: document 01 gave it to a negative own share, and a site that keeps the step limit
-- has none (document 02, [7])

-- 4: some cell breaks the step limit
unfoldable pub limit_kept : Card → Water → Bool
limit_kept c w = all_at c.columns c.rows (within_limit c w)

-- 5: some new height exceeds 50,000,000
unfoldable pub new_heights_fit : Card → Water → Bool
new_heights_fit c w = all_at c.columns c.rows (λ i j. le_z (new_height c w i j) (pos 50000000))

-- 7: some new velocity lies outside its range
unfoldable pub new_velocities_fit : Rule → Card → Field → Water → Bool
new_velocities_fit rule c g w =
    all_at (suc c.columns) c.rows (λ i j. speed_fits (new_east rule c g w i j))
    && all_at c.columns (suc c.rows) (λ i j. speed_fits (new_north rule c g w i j))

unfoldable pub answer : (limit heights speeds : Bool) → ℕ
answer false h v = 4
answer true false v = 5
answer true true false = 7
answer true true true = 0

unfoldable pub number : Rule → Card → Field → Water → ℕ
number rule c g w = answer (limit_kept c w) (new_heights_fit c w) (new_velocities_fit rule c g w)

-- ---- One step of a site that passes the first three checks: its number, and its next state

unfoldable pub step_number_by : Rule → Card → (land state : List ℤ) → ℕ
step_number_by rule c g s = number rule c (read_ground c g) (read_state c s)

unfoldable pub next_state_by : Rule → Card → (land state : List ℤ) → List ℤ
next_state_by rule c g s = write_state c (next rule c (read_ground c g) (read_state c s))

-- document 01's step, as document 02 reads it
abbrev pub step_number : Card → (land state : List ℤ) → ℕ
step_number = step_number_by new_velocity

abbrev pub next_state : Card → (land state : List ℤ) → List ℤ
next_state = next_state_by new_velocity
