-- `new_height`: a height and four transfers of at most 50,000,000 each, so that no sum or difference wraps.
use mir.Syntax.{w32}
use Rattle.laws.specs.Exact.{Node, fits, value, int, add, sub}
use Rattle.face.proofs.Bounds.{height_within}
use Rattle.face.proofs.new_height.Goals as goal

-- what it returns; then that each operation fits
pub returns : goal.returns
returns c =
    let from_west : Node w32 = add (int (height_within c.requires.height) tt) (int c.requires.west tt) tt in
    let to_east : Node w32 = sub from_west (int c.requires.east tt) tt in
    let from_south : Node w32 = add to_east (int c.requires.south tt) tt in
    let to_north : Node w32 = sub from_south (int c.requires.north tt) tt in
    value to_north

pub overflow_add-result : goal.overflow_add-result
overflow_add-result c =
    let from_west : Node w32 = add (int (height_within c.requires.height) tt) (int c.requires.west tt) tt in
    fits from_west

pub overflow_sub-result : goal.overflow_sub-result
overflow_sub-result c =
    let from_west : Node w32 = add (int (height_within c.requires.height) tt) (int c.requires.west tt) tt in
    let to_east : Node w32 = sub from_west (int c.requires.east tt) tt in
    fits to_east

pub overflow_add-result-2 : goal.overflow_add-result-2
overflow_add-result-2 c =
    let from_west : Node w32 = add (int (height_within c.requires.height) tt) (int c.requires.west tt) tt in
    let to_east : Node w32 = sub from_west (int c.requires.east tt) tt in
    let from_south : Node w32 = add to_east (int c.requires.south tt) tt in
    fits from_south

pub overflow_sub-result-2 : goal.overflow_sub-result-2
overflow_sub-result-2 c =
    let from_west : Node w32 = add (int (height_within c.requires.height) tt) (int c.requires.west tt) tt in
    let to_east : Node w32 = sub from_west (int c.requires.east tt) tt in
    let from_south : Node w32 = add to_east (int c.requires.south tt) tt in
    let to_north : Node w32 = sub from_south (int c.requires.north tt) tt in
    fits to_north
