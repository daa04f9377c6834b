-- The theorem that crews rely on (its statement is in specs/Promises.antt), and whom a call leaves alone.
use Rattle.std.specs.Prelude.{ℕ, ◌≡◌, refl, List}
use Rattle.std.proofs.Common.{sym, ◌∙◌, ap}
use Rattle.pins_rules.specs.Table.{empty}
use Rattle.pins_laws.specs.Sound.{empty_sound}
use Rattle.pins_promises.specs.Histories.{Call, calls_of, answers_to}
use Rattle.pins_promises.specs.Promises.{OwnCallsOnly}
use Rattle.pins_promises.proofs.OwnCalls.{Alike, alone_from}
pub use Rattle.pins_promises.proofs.Done.{undisturbed}

pub own_calls_only : OwnCallsOnly
own_calls_only crew history other same = alone crew history ∙ ap (answers_to crew empty) same ∙ sym (alone crew other)
  where
    alike : (crew : ℕ) → Alike crew empty empty
    alike crew = record { first = empty_sound; second = empty_sound; same = λ k chamber h. refl }

    alone : (crew : ℕ) (history : List Call) → answers_to crew empty history ≡ answers_to crew empty (calls_of crew history)
    alone crew history = alone_from crew history empty empty (alike crew)
