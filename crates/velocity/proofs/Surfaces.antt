-- A cell's surface, its height and its ground, as the sum of two locals.
use lib.IntN.{ℤ}
use mir.Syntax.{w32, w64}
use Rattle.laws.specs.Exact.{Node, int, add, cast}
use Rattle.face.specs.Ranges.{Height}
use Rattle.face.proofs.Bounds.{height_within}
use Rattle.momentum.specs.Fits.{Ground}

abbrev pub height : {h : ℤ} → Height h → Node w32
height r = int (height_within r) tt

abbrev pub land : {z : ℤ} → Ground z → Node w32
land r = int r tt

abbrev pub surface : {h z : ℤ} → Height h → Ground z → Node w32
surface h z = add (height h) (land z) tt

-- a height and a ground level, cast to 64 bits
abbrev pub wide_height : {h : ℤ} → Height h → Node w64
wide_height r = cast (height r) tt

abbrev pub wide_ground : {z : ℤ} → Ground z → Node w64
wide_ground r = cast (land r) tt
