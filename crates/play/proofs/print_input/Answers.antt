-- `print_input`: the refused line where the player refuses, and elsewhere what is printed of the run.
use Rattle.std.proofs.Common.{sym, ap, ◌∙◌, List, ℕ, ◌++◌}
use Rattle.rules.specs.Play.{refused_line}
use Rattle.laws.specs.Refusing.{number-ne0}
use Rattle.play.proofs.Numbers.{printed_refused, printed_played}
use Rattle.play.proofs.print_input.Goals as goal

pub returns-in-Err : goal.returns-in-Err
returns-in-Err c =
    let n = c.in-Err.ensures in
    c.refused_line.ensures
    ∙ ap (λ (l : List ℕ). l ++ refused_line c.from.result) c.requires
    ∙ ap refused_line (c.from.ensures ∙ n)
    ∙ printed_refused c.args.input.now (λ z. number-ne0 _ (n ∙ z))

pub returns-in-Ok : goal.returns-in-Ok
returns-in-Ok c = c.print_cut.ensures ∙ printed_played c.args.input.now (sym c.in-Ok.ensures)
