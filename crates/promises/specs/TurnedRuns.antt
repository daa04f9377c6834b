-- A turn whose single steps and cells agree obeys demand 3.
use Rattle.std.specs.Prelude.{ℕ, ◌≤◌, ◌≡◌, refl, Bool, true, false, not, List, ℤ, length, eqb}
use Rattle.std.proofs.Common.{sym, ◌∙◌}
use Rattle.std.proofs.Math.Path.{ap}
use Rattle.rules.specs.declared.Card.{Card}
use Rattle.rules.specs.Site.{cells, read_ground, read_state, check}
use Rattle.rules.specs.Step.{new_velocity, limit_kept, new_heights_fit, new_velocities_fit, answer, number, step_number_by, step_number}
use Rattle.rules.specs.Run.{run_from, site_step}
use Rattle.rules.specs.Pumps.{check_pumped, pumped_step, pumped_run}
use Rattle.rules.specs.Turn.{Turn, turned_pumps, turned, Obeys}
use Rattle.laws.specs.Facts.{check_sound, sound_check, sound_facts}
use Rattle.laws.specs.Keeps.{keeps}
use Rattle.laws.specs.Follows.{Follows, Always, follows}
use Rattle.laws.specs.Pumped.{sound_pumped}
use Rattle.laws.specs.PumpChecks.{PumpsPass, checked, to_checked}
use Rattle.laws.specs.Counting.{uncounted, told, counting, map_counted, counting_follows}
use Rattle.laws.specs.PumpedSteps.{PumpsFollow, pumping_follows, pumped-run}
use Rattle.promises.specs.Turning.{Lawful}
use Rattle.promises.specs.TurnedPumps.{added_turned, taken_turned, pumped-turned, inlets_turned, pumps_turned}

-- whether the limit is kept can be told from a step's number
kept_by : (l h v : Bool) → not (eqb (answer l h v) 4) ≡ l
unfolding answer
kept_by false h v = refl
kept_by true false v = refl
kept_by true true false = refl
kept_by true true true = refl

limit_told : (c : Card) (g s : List ℤ) → not (eqb (step_number c g s) 4) ≡ limit_kept c (read_state c s)
unfolding step_number_by number
limit_told c g s = kept_by (limit_kept c (read_state c s)) (new_heights_fit c (read_state c s)) (new_velocities_fit new_velocity c (read_ground c g) (read_state c s))

module _ (t : Turn) (𝓛 : Lawful t) where
  limits : (c : Card) (g s : List ℤ) → limit_kept (t.card c) (read_state (t.card c) (t.state c s)) ≡ limit_kept c (read_state c s)
  limits c g s = sym (limit_told (t.card c) (t.land c g) (t.state c s)) ∙ ap (λ (k : ℕ). not (eqb k 4)) (𝓛.numbers c g s) ∙ limit_told c g s

  -- the step without pumps
  turned_follows : (c : Card) (g : List ℤ) → Follows (λ s. check c g s ≡ 0) Always (t.state c) (site_step c g) (site_step (t.card c) (t.land c g))
  turned_follows c g = record {
    kept = keeps c g;
    done = tt;
    numbers = λ s e a. 𝓛.numbers c g s;
    states = λ s e z. 𝓛.states c g s;
    peaks = λ s e. 𝓛.peaks c s;
  }

  module _ (c : Card) (g ps : List ℤ) (pass : PumpsPass c ps) where
    heights_held : (s : List ℤ) → check c g s ≡ 0 → cells c ≤ length s
    heights_held s e = (sound_facts c g s (check_sound c g s e)).lengths.heights

    -- the pumps
    pumps_follow : PumpsFollow (λ s. check c g s ≡ 0) (t.state c) c (t.card c) ps (turned_pumps t c ps)
    pumps_follow = record {
      kept = λ s e i. sound_check c g _ (sound_pumped c ps pass.fit g s i (check_sound c g s e));
      limits = λ s e. limits c g s;
      inlets = λ s e. inlets_turned t 𝓛 c ps pass s (heights_held s e);
      states = λ s e. pumped-turned t 𝓛 c ps pass s (heights_held s e);
    }

    -- and so the pumped step that counts
    counts_follow : Follows (λ x. check c g x.state ≡ 0) Always (map_counted (t.state c)) (counting ps (pumped_step c g ps)) (counting (turned_pumps t c ps) (pumped_step (t.card c) (t.land c g) (turned_pumps t c ps)))
    counts_follow =
        counting_follows ps (turned_pumps t c ps) (pumping_follows (turned_follows c g) pumps_follow) (added_turned t 𝓛 c ps pass)
        (λ s e z. taken_turned t 𝓛 c ps pass s (heights_held s e))

  -- the turned site passes the checks with the turned pumps
  pub turned_passes : (c : Card) (g s ps : List ℤ) → check_pumped c g s ps ≡ 0 → check_pumped (t.card c) (t.land c g) (t.state c s) (turned_pumps t c ps) ≡ 0
  turned_passes c g s ps e =
      let p = checked c g s ps e in
      to_checked (t.card c) (t.land c g) (t.state c s) (turned_pumps t c ps) (record {
        sound = check_sound _ _ _ (𝓛.checks c g s (sound_check c g s p.sound));
        pumps = pumps_turned t 𝓛 c ps p.pumps;
      })

  pub obeys : Obeys t
  unfolding pumped_run
  obeys c g s ps e =
      let p = checked c g s ps e in
      let qs = turned_pumps t c ps in
      let step = counting qs (pumped_step (t.card c) (t.land c g) qs) in
      pumped-run (t.card c) (t.land c g) (t.state c s) qs (check_pumped (t.card c) (t.land c g) (t.state c s) qs) (turned_passes c g s ps e)
      ∙ ap (λ (n : ℕ). told (run_from step n (uncounted (t.state c s)))) (𝓛.steps c)
      ∙ ap told (follows (counts_follow c g ps p.pumps) c.steps (uncounted s) (sound_check c g s p.sound) tt)
      ∙ ap (turned t c) (sym (pumped-run c g s ps (check_pumped c g s ps) e))
