-- `fill_next`: the tide's front holds the new heights; with the velocities behind them, where those fit, it is the next state.
use mathlib.Core.Path.{◌≡◌, ◌∙◌, sym, refl}
use mathlib.Core.List.{List, ◌++◌}
use Prim.Native.Nat.{ℕ, ◌*◌, ◌≤◌}
use native.Mathlib.Omega.{arith}
use lib.IntN.{ℤ}
use lib.ListN.{length, take, drop}
use lib.Seq.{length_front}
use Rattle.laws.specs.Places.{Room, room}
use Rattle.laws.specs.Parts.{length_part, back_length}
use Rattle.laws.specs.Reading.{long_of}
use Rattle.transfers.proofs.Sites.{facts}
use Rattle.around.proofs.Flows.{sound_of}
use Rattle.advance.proofs.Answers.{whole, speed_broken, all_kept}
use Rattle.advance.proofs.fill_next.Goals as goal

pub overflow_mul-cells : goal.overflow_mul-cells
overflow_mul-cells g c =
    let next_room : Room c.args.flow.now.card.columns c.args.flow.now.card.rows (length c.args.next.now) = room c.args.flow.now.card c.requires.long in
    omega (arith, next_room)

pub slice_bounds-copy-end : goal.slice_bounds-copy-end
slice_bounds-copy-end g c =
    let next_room : Room c.args.flow.now.card.columns c.args.flow.now.card.rows (length c.args.next.now) = room c.args.flow.now.card c.requires.long in
    next_room.heights

pub slice_bounds-copy-end-2 : goal.slice_bounds-copy-end-2
slice_bounds-copy-end-2 g c =
    let cells : ℕ = c.args.flow.now.card.rows * c.args.flow.now.card.columns in
    let next_room : Room c.args.flow.now.card.columns c.args.flow.now.card.rows (length c.args.next.now) = room c.args.flow.now.card c.requires.long in
    let next_front : length (take cells c.args.next.now) ≡ cells = length_part cells c.args.next.now next_room.heights refl in
    sym next_front

pub slice_bounds-copy-end-3 : goal.slice_bounds-copy-end-3
slice_bounds-copy-end-3 g c =
    let cells : ℕ = c.args.flow.now.card.rows * c.args.flow.now.card.columns in
    let tide_room : Room c.args.flow.now.card.columns c.args.flow.now.card.rows (length c.args.flow.now.tide.now) = room c.args.flow.now.card (long_of c.args.flow.now.flowing.tide) in
    let state_room : cells ≤ length c.args.flow.now.state.now = (facts (sound_of c.args.flow.now.flowing)).lengths.heights in
    let tide_front : length (take cells c.args.flow.now.tide.now) ≡ cells = length_part cells c.args.flow.now.tide.now tide_room.heights refl in
    let state_front : length (take cells c.args.flow.now.state.now) ≡ cells = length_part cells c.args.flow.now.state.now state_room refl in
    omega (arith, tide_front, state_front)

pub copy-requires : goal.copy-requires
copy-requires g c =
    let cells : ℕ = c.args.flow.now.card.rows * c.args.flow.now.card.columns in
    let next_room : Room c.args.flow.now.card.columns c.args.flow.now.card.rows (length c.args.next.now) = room c.args.flow.now.card c.requires.long in
    let tide_room : Room c.args.flow.now.card.columns c.args.flow.now.card.rows (length c.args.flow.now.tide.now) = room c.args.flow.now.card (long_of c.args.flow.now.flowing.tide) in
    let state_room : cells ≤ length c.args.flow.now.state.now = (facts (sound_of c.args.flow.now.flowing)).lengths.heights in
    let next_front : length (take cells c.args.next.now) ≡ cells = length_part cells c.args.next.now next_room.heights refl in
    let tide_front : length (take cells c.args.flow.now.tide.now) ≡ cells = length_part cells c.args.flow.now.tide.now tide_room.heights refl in
    let state_front : length (take cells c.args.flow.now.state.now) ≡ cells = length_part cells c.args.flow.now.state.now state_room refl in
    omega (arith, next_front, tide_front, state_front)

pub offset_bounds-next-cells : goal.offset_bounds-next-cells
offset_bounds-next-cells g c =
    let next_room : Room c.args.flow.now.card.columns c.args.flow.now.card.rows (length c.args.next.now) = room c.args.flow.now.card c.requires.long in
    omega (arith, next_room)

pub slice_bounds-velocities-count : goal.slice_bounds-velocities-count
slice_bounds-velocities-count g c =
    let cells : ℕ = c.args.flow.now.card.rows * c.args.flow.now.card.columns in
    let next_room : Room c.args.flow.now.card.columns c.args.flow.now.card.rows (length c.args.next.now) = room c.args.flow.now.card c.requires.long in
    let begun : List ℤ = c.copy.new.to ++ drop cells c.args.next.now in
    let begun_long : length begun ≡ length c.args.next.now = length_front c.args.next.now c.copy.new.to cells c.copy.auto.to in
    omega (arith, begun_long, next_room)

pub slice_bounds-velocities-start : goal.slice_bounds-velocities-start
slice_bounds-velocities-start g c =
    let cells : ℕ = c.args.flow.now.card.rows * c.args.flow.now.card.columns in
    let next_room : Room c.args.flow.now.card.columns c.args.flow.now.card.rows (length c.args.next.now) = room c.args.flow.now.card c.requires.long in
    let begun : List ℤ = c.copy.new.to ++ drop cells c.args.next.now in
    let begun_long : length begun ≡ length c.args.next.now = length_front c.args.next.now c.copy.new.to cells c.copy.auto.to in
    omega (arith, begun_long, next_room)

pub velocities-requires : goal.velocities-requires
velocities-requires g c =
    let cells : ℕ = c.args.flow.now.card.rows * c.args.flow.now.card.columns in
    let next_room : Room c.args.flow.now.card.columns c.args.flow.now.card.rows (length c.args.next.now) = room c.args.flow.now.card c.requires.long in
    let begun : List ℤ = c.copy.new.to ++ drop cells c.args.next.now in
    let begun_long : length begun ≡ length c.args.next.now = length_front c.args.next.now c.copy.new.to cells c.copy.auto.to in
    record {
      marked = c.requires.marked;
      long = back_length cells begun ∙ omega (arith, begun_long, next_room);
    }

pub returns-then-not-velocities : goal.returns-then-not-velocities
returns-then-not-velocities g c = let p = c.args.flow.now.flowing in speed_broken p (whole _ c.args.next.now p c.copy.ensures c.velocities.ensures) c.if-not-velocities.true

pub returns : goal.returns
returns g c = let p = c.args.flow.now.flowing in all_kept p (whole _ c.args.next.now p c.copy.ensures c.velocities.ensures) c.if-not-velocities.false
