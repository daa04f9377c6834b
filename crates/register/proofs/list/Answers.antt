use mathlib.Core.Path.{sym, ◌∙◌, subst}
use mathlib.Core.Bool.{Bool}
use Prim.Native.Nat.{ℕ, ◌<◌}
use native.Mathlib.Omega.{arith}
use lib.IntN.{ℤ}
use lib.ListN.{length}
use mir.Facts.{to_z-of_z}
use Rattle.rules.specs.Search.{listed_at, list_of, places}
use Rattle.laws.specs.Listings.{Listed, list_none, list_few, list_length, list_yes, list_no, list_all}
use Rattle.register.proofs.list.Goals as goal
use Rattle.register.proofs.list.Goals.{then-listed_at, else-listed_at}

pub loop-k-init : goal.loop-k-init
loop-k-init c = list_none

pub overflow_cast-draft : goal.overflow_cast-draft
overflow_cast-draft c = omega (arith, c.requires.0.few)

pub offset_bounds-draft-n : goal.offset_bounds-draft-n
offset_bounds-draft-n c =
    let small : c.loop-k.n < 1000 = omega (arith, list_few c.loop-k.invariant, c.requires.0.few) in
    omega (arith, small)

pub bounds-draft-n : goal.bounds-draft-n
bounds-draft-n c = omega (arith, list_few c.loop-k.invariant, list_length c.loop-k.invariant c.requires.1, c.requires.1)

pub overflow_add-n : goal.overflow_add-n
overflow_add-n c =
    let small : c.loop-k.n < 1000 = omega (arith, list_few c.loop-k.invariant, c.requires.0.few) in
    omega (arith, small)

pub loop-k-preserved : goal.loop-k-preserved
loop-k-preserved c =
    let less = c.loop-k-test.true in
    let said = c.listed_at.ensures in
    elim c.if-listed_at.branch [
      | then-listed_at w ↦ list_yes c.loop-k.invariant less c.requires.1 (sym said ∙ w.if-listed_at.true) w.draft-is w.n-is
      | else-listed_at w ↦ list_no c.loop-k.invariant less (sym said ∙ w.if-listed_at.false) w.draft-is w.n-is
    ]

pub shape_of-draft : goal.shape_of-draft
shape_of-draft c = list_length c.loop-k.invariant c.requires.1

pub returns : goal.returns
unfolding list_of
returns c =
    let test : ℤ → ℕ → Bool = (λ depth. listed_at c.args.card c.args.state.now c.args.window depth c.args.xs.now c.args.ys.now) in
    subst (λ (z : ℤ). Listed (places (length c.args.xs.now) (test z)) c.args.draft.now c.loop-k.n c.loop-k.draft) (to_z-of_z c.ranges.depth)
    (list_all c.loop-k.invariant c.loop-k-test.false)
