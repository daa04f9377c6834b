-- What the numbers of the calls share: a refusal that is passed on is the number, and whether a crew's pin stands in a table.
use mathlib.Core.Path.{◌≡◌, sym, ap, ◌∙◌}
use mathlib.Core.Bool.{Bool}
use mathlib.Core.List.{List}
use Prim.Native.Nat.{ℕ}
use Rattle.rules.specs.Site.{first_refusal}
use Rattle.laws.specs.Outcomes.{first_refused}
use Rattle.pins_laws.specs.Refusing.{number-ne0}
use Rattle.pins_rules.specs.declared.refusals.PinRefusal.{PinRefusal}
use Rattle.pins_rules.specs.Refusals.{refusal_number}
use Rattle.pins_rules.specs.Table.{pin, stands as table_stands}

pub passed_on : (r : PinRefusal) (later : ℕ) {k : ℕ} → refusal_number r ≡ k → refusal_number r ≡ first_refusal k later
passed_on r later {k} said = said ∙ sym (first_refused k later (λ z. number-ne0 r (said ∙ z)))

pub pin_stands : (crew chamber : ℕ) (words : List ℕ) {b t : Bool} {word : ℕ} → b ≡ table_stands word words → word ≡ pin crew chamber → b ≡ t → table_stands (pin crew chamber) words ≡ t
pin_stands crew chamber words is same so = sym (is ∙ ap (λ (w : ℕ). table_stands w words) same) ∙ so
