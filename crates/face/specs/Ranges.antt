-- What the functions of this crate require: each number in its range (document 01, "Units and ranges"), and each transfer at most a height.
use Rattle.std.specs.Prelude.{ℕ, ◌≤◌, ℤ, pos, T}
use Rattle.std.specs.Int.Signed.{le_z}
use Rattle.laws.specs.Sizes.{Within}

-- a water height: 0 to 50,000,000
pub record Height (h : ℤ) : Type 0 where
  pub low : T (le_z (pos 0) h)
  pub high : T (le_z h (pos 50000000))

-- a face velocity: -20,000,000 to 20,000,000
abbrev pub Speed : ℤ → Type 0
Speed v = Within 20000000 v

-- a transfer under the step limit: no cell sends more than it holds
abbrev pub Transfer : ℤ → Type 0
Transfer t = Within 50000000 t

-- a time step: 1 to 1,000
pub record Time (dt : ℕ) : Type 0 where
  pub low : 1 ≤ dt
  pub high : dt ≤ 1000

-- a cell's side: 100,000 to 20,000,000
pub record Side (d : ℕ) : Type 0 where
  pub low : 100000 ≤ d
  pub high : d ≤ 20000000

-- ---- what each function requires

pub record InTransfer (h_k h_l u : ℤ) (dt d : ℕ) : Type 0 where
  pub height_k : Height h_k
  pub height_l : Height h_l
  pub speed : Speed u
  pub time : Time dt
  pub side : Side d

pub record InLimit (u_w u_e u_s u_n : ℤ) (dt dx dy : ℕ) : Type 0 where
  pub west : Speed u_w
  pub east : Speed u_e
  pub south : Speed u_s
  pub north : Speed u_n
  pub time : Time dt
  pub side_x : Side dx
  pub side_y : Side dy

pub record InHeight (h t_w t_e t_s t_n : ℤ) : Type 0 where
  pub height : Height h
  pub west : Transfer t_w
  pub east : Transfer t_e
  pub south : Transfer t_s
  pub north : Transfer t_n
