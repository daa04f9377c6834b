-- Whom a call on the pin table leaves alone: what a crew is answered after another crew's call.
use Rattle.std.specs.Prelude.{ℕ, ◌≡◌, refl, List}
use Rattle.pins_promises.specs.Histories.{Call, by, answer, after}
use Rattle.pins_promises.specs.ForEver.{Passes, passing_sound}
use Rattle.pins_promises.proofs.OwnCalls.{same_answer, others_alike}

-- another crew's call on a table that passes changes no answer to this crew
pub undisturbed : (table : List ℕ) → Passes table → (call own : Call) (crew : ℕ) → (by call ≡ crew → ⊥) → by own ≡ crew → answer (after table call) own ≡ answer table own
undisturbed table p call own crew other is =
    let s = passing_sound p in
    same_answer (others_alike (record { first = s; second = s; same = λ k chamber h. refl }) call other) own is
