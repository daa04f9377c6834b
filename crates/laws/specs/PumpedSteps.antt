-- The pumped step over the step that it wraps: its number taken apart, what an accepted one keeps, that without pumps it is the step, and that it follows another where
-- the wrapped step does.
use Rattle.std.specs.Prelude.{ℕ, ◌≡◌, Bool, cond, List, [], ℤ, pos}
use Rattle.std.proofs.Math.Path.{refl, sym, ap}
use Rattle.std.proofs.Common.{◌∙◌, suc-ne-zero, pos_of_ne-zero}
use Rattle.std.proofs.Math.Bool.{true, false}
use Rattle.rules.specs.declared.Card.{Card}
use Rattle.rules.specs.Grid.{all}
use Rattle.rules.specs.Site.{read_state, first_refusal}
use Rattle.rules.specs.Step.{Rule, limit_kept, answer, number, step_number_by, next_state_by}
use Rattle.rules.specs.Run.{Stepping, peak, run_from, history, site_step_by}
use Rattle.rules.specs.Pumps.{after_pumps, pumped, inlets_fit, pumped_number, pumping, pumped_step_by, pumped_step, added_over, taken_over, progress_of, reported, pumped_run_after}
use Rattle.laws.specs.Facts.{Sound}
use Rattle.laws.specs.Outcomes.{if_done_lem, if_refused}
use Rattle.laws.specs.Runs.{begun, refused_after}
use Rattle.laws.specs.Follows.{Follows, Always}
use Rattle.laws.specs.Counting.{uncounted, told, counting, counted}
use Rattle.laws.specs.Keeps.{keeps_sound_by}
use Rattle.laws.specs.Pumped.{sound_pumped, limit_pumped}
use Rattle.laws.specs.PumpChecks.{PumpsPass}

-- ---- its number, by the tests before it: a broken limit, an inlet past the top, and else the step's own

abbrev pub number_of : (limit inlets : Bool) (own : ℕ) → ℕ
number_of l i own = first_refusal (cond l 0 4) (first_refusal (cond i 0 5) own)

pub record PumpedAccepted (l i : Bool) (own : ℕ) : Type 0 where
  pub limit : l ≡ true
  pub inlets : i ≡ true
  pub done : own ≡ 0

pub accepted_apart : (l i : Bool) (own : ℕ) → number_of l i own ≡ 0 → PumpedAccepted l i own
unfolding first_refusal
accepted_apart false i own e = absurd (suc-ne-zero 3 e)
accepted_apart true false own e = absurd (suc-ne-zero 4 e)
accepted_apart true true own e = record { limit = refl; inlets = refl; done = e }

-- where the inlets fit it is the step's own, if that is 4 where the limit is broken; and where they do not fit, 4 or 5
pub own_number_lem : (l i : Bool) (own : ℕ) → i ≡ true → (l ≡ false → own ≡ 4) → number_of l i own ≡ own
unfolding first_refusal
own_number_lem false i own e h = sym (h refl)
own_number_lem true i own e h = rw e

pub past_number : (l i : Bool) (own : ℕ) → i ≡ false → number_of l i own ≡ cond l 5 4
unfolding first_refusal
past_number false i own e = refl
past_number true i own e = rw e

-- a step of a site has 4 where the limit is broken
pub broken_limit : (rule : Rule) (c : Card) (g s : List ℤ) → limit_kept c (read_state c s) ≡ false → step_number_by rule c g s ≡ 4
unfolding step_number_by number answer
broken_limit rule c g s e = rw e

-- ---- of a site whose pumps pass

module _ (rule : Rule) (c : Card) (g ps : List ℤ) (pass : PumpsPass c ps) where
  -- where no inlet passes the top, the number is that of the step from the pumped state
  pub number-pumped : (s : List ℤ) → inlets_fit ps s ≡ true → (pumped_step_by rule c g ps).number s ≡ step_number_by rule c g (pumped ps s)
  unfolding pumped_number
  number-pumped s i =
      own_number_lem (limit_kept c (read_state c s)) (inlets_fit ps s) (step_number_by rule c g (pumped ps s)) i
      (λ l. broken_limit rule c g (pumped ps s) (limit_pumped c ps pass.fit s ∙ l))

  pub inlets_fitted : (s : List ℤ) → (pumped_step_by rule c g ps).number s ≡ 0 → inlets_fit ps s ≡ true
  unfolding pumped_number
  inlets_fitted s e = (accepted_apart (limit_kept c (read_state c s)) (inlets_fit ps s) (step_number_by rule c g (pumped ps s)) e).inlets

  pub keeps_pumped : (s : List ℤ) → Sound c g s → (pumped_step_by rule c g ps).number s ≡ 0 → Sound c g ((pumped_step_by rule c g ps).next s)
  keeps_pumped s sound e =
      let i = inlets_fitted s e in
      keeps_sound_by rule c g (pumped ps s) (sound_pumped c ps pass.fit g s i sound) (sym (number-pumped s i) ∙ e)

-- ---- without pumps

module _ (rule : Rule) (c : Card) (g : List ℤ) where
  no_pumps_number : (s : List ℤ) → (pumped_step_by rule c g []).number s ≡ step_number_by rule c g s
  unfolding pumped_number pumped after_pumps inlets_fit all
  no_pumps_number s = own_number_lem (limit_kept c (read_state c s)) true (step_number_by rule c g s) refl (broken_limit rule c g s)

  no_pumps_next : (s : List ℤ) → (pumped_step_by rule c g []).next s ≡ next_state_by rule c g s
  unfolding pumped after_pumps
  no_pumps_next s = refl

  -- the pumped step is the step
  pub no_pumps : pumped_step_by rule c g [] ≡ site_step_by rule c g
  no_pumps = λ x. record { number = λ s. no_pumps_number s x; next = λ s. no_pumps_next s x; peak = peak c }

-- ---- where a step follows another under a map of states, and pumps do to a mapped state what other pumps do to the state, so do the pumped steps

pub record PumpsFollow (Passes : List ℤ → Type 0) (f : List ℤ → List ℤ) (c c' : Card) (ps qs : List ℤ) : Type 0 where
  pub kept : (s : List ℤ) → Passes s → inlets_fit ps s ≡ true → Passes (pumped ps s)
  pub limits : (s : List ℤ) → Passes s → limit_kept c' (read_state c' (f s)) ≡ limit_kept c (read_state c s)
  pub inlets : (s : List ℤ) → Passes s → inlets_fit qs (f s) ≡ inlets_fit ps s
  pub states : (s : List ℤ) → Passes s → pumped qs (f s) ≡ f (pumped ps s)

module _ {Passes : List ℤ → Type 0} {f : List ℤ → List ℤ} {c c' : Card} {ps qs : List ℤ} {step other : Stepping}
    (𝓕 : Follows Passes Always f step other) (𝓟 : PumpsFollow Passes f c c' ps qs) where
  -- an accepted one: no inlet passed the top, and the step from the pumped state was accepted
  done : (s : List ℤ) → (pumping c ps step).number s ≡ 0 → PumpedAccepted (limit_kept c (read_state c s)) (inlets_fit ps s) (step.number (pumped ps s))
  unfolding pumped_number
  done s e = accepted_apart (limit_kept c (read_state c s)) (inlets_fit ps s) (step.number (pumped ps s)) e

  numbers : (s : List ℤ) → Passes s → (pumping c' qs other).number (f s) ≡ (pumping c ps step).number s
  unfolding pumped_number
  numbers s p = rw (𝓟.limits s p, 𝓟.inlets s p, 𝓟.states s p) (go (inlets_fit ps s) refl)
    where
      go : (i : Bool) → inlets_fit ps s ≡ i → number_of (limit_kept c (read_state c s)) i (other.number (f (pumped ps s))) ≡ number_of (limit_kept c (read_state c s)) i (step.number (pumped ps s))
      go true e = ap (number_of (limit_kept c (read_state c s)) true) (𝓕.numbers (pumped ps s) (𝓟.kept s p e) tt)
      go false e = past_number (limit_kept c (read_state c s)) false _ refl ∙ sym (past_number (limit_kept c (read_state c s)) false _ refl)

  pub pumping_follows : Follows Passes Always f (pumping c ps step) (pumping c' qs other)
  pumping_follows = record {
    kept = λ s p e. let a = done s e in 𝓕.kept (pumped ps s) (𝓟.kept s p a.inlets) a.done;
    done = tt;
    numbers = λ s p u. numbers s p;
    states = λ s p e. let a = done s e in ap other.next (𝓟.states s p) ∙ 𝓕.states (pumped ps s) (𝓟.kept s p a.inlets) a.done;
    peaks = 𝓕.peaks;
  }

-- ---- the run of a site with pumps, given the number of its checks: where that is 0, it is the counting step's
pub pumped-run : (c : Card) (g s ps : List ℤ) (k : ℕ) → k ≡ 0
    → pumped_run_after k c g s ps ≡ told (run_from (counting ps (pumped_step c g ps)) c.steps (uncounted s))
unfolding pumped_run_after
pumped-run c g s ps k e =
    let step = pumped_step c g ps in
    (λ i. reported ps (if_done_lem k (history step c.steps s) [] e i) (begun step c.steps s k e i)) ∙ counted ps step c.steps s

-- how far it comes, and its end state, are those of the pumped step's run
pub pumped_progress : (c : Card) (g s ps : List ℤ) (k : ℕ) → k ≡ 0
    → record { progress = progress_of (pumped_run_after k c g s ps).tally; state = (pumped_run_after k c g s ps).state } ≡ run_from (pumped_step c g ps) c.steps s
unfolding pumped_run_after reported
pumped_progress c g s ps k e = begun (pumped_step c g ps) c.steps s k e

-- where it is not, nothing is done, added or taken
pub pumped_refused : (c : Card) (g s ps : List ℤ) (k : ℕ) → (k ≡ 0 → ⊥)
    → pumped_run_after k c g s ps ≡ record { tally = record { steps = 0; reason = k; top = pos 0; added = 0; taken = 0 }; state = s }
unfolding pumped_run_after reported added_over taken_over
pumped_refused c g s ps k h =
    let step = pumped_step c g ps in
    λ i. reported ps (if_refused k (history step c.steps s) [] h i) (refused_after step c.steps s k k (pos_of_ne-zero h) refl i)
