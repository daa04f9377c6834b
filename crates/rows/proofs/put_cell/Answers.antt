-- `put_cell`: the word at the row's start and the column is the cell's height, and its text lies behind the comma.
use Rattle.std.proofs.Common.{rules, ℕ, List, ◌+◌, ◌++◌, ap, ◌∙◌, get_or, pos, arith, cond, eqb, [], SFits}
use Rattle.std.specs.Int.{w32}
use Rattle.rules.specs.Site.{read_state}
use Rattle.rules.specs.Text.{depth_text}
use Rattle.rules.specs.Play.{comma, cell_text}
use Rattle.text.proofs.Laws.{signed_same}
use Rattle.print.proofs.Pages.{put_more}
use Rattle.rows.proofs.Loops.{cell_index}
use Rattle.rows.proofs.put_cell.Goals as goal

pub bounds-state-start : goal.bounds-state-start
bounds-state-start c = omega (arith, cell_index c.requires, c.row_start-start.ensures.0)

pub returns-clause-text : goal.returns-clause-text
unfolding cell_text read_state
returns-clause-text c =
    let row = c.row_start-start in
    let i = c.args.i in
    let l = c.args.state.now in
    let fits : SFits w32 (get_or l (row.result + i) (pos 0)) = search rules in
    let held = signed_same (get_or l (row.result + i) (pos 0)) fits in
    let there = ap (λ (k : ℕ). depth_text (get_or l (k + i) (pos 0))) row.ensures.0 in
    put_more c.args.page.now (cond (eqb i 0) [] comma) _ c.put_comma.ensures.text (c.put_depth.ensures.text ∙ ap (λ (t : List ℕ). c.put_comma.new.page ++ t) (held ∙ there))
