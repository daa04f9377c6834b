-- `print_run`: the run's own tally, and behind its line the rows of the state in which the run ends.
use Rattle.std.proofs.Common.{ap, ap₂, ◌∙◌, ℤ, ℕ, List, ◌++◌}
use Rattle.rules.specs.declared.Tally.{Tally}
use Rattle.rules.specs.Pumps.{progress_of}
use Rattle.rules.specs.Calls.{run_tally, run_state}
use Rattle.rules.specs.Play.{tally_line, row_lines, played_text}
use Rattle.play.proofs.print_run.Goals as goal

pub returns : goal.returns
unfolding played_text run_tally run_state
returns c =
    let r = c.run-tally.ensures in
    let told = tally_line (progress_of c.run-tally.result) in
    let first = c.tally_line.ensures.text ∙ ap (λ (l : List ℕ). l ++ told) c.requires.blank ∙ ap (λ (x : Tally). tally_line (progress_of x)) r.answer in
    let rows = ap (λ (l : List ℤ). row_lines c.args.card l c.args.card.rows) r.state_exit in
    c.put_rows.ensures ∙ ap₂ (λ (a b : List ℕ). a ++ b) first rows
