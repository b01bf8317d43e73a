use Rattle.board_past.proofs.Common.{fold, ap, ◌∙◌, Grid, with_rectangle}
use Rattle.board_past.proofs.past.print_past.PrintPastPast.set_up.Goals as goal

pub returns-clause-ok : goal.returns-clause-ok
returns-clause-ok c =
    let coloured = c.work_settled_out.ensures ∙ c.colour_rectangles.ensures.value in
    let made = coloured ∙ ap (λ (b : Grid). fold with_rectangle b c.args.ops.now) (c.copy-made.ensures ∙ c.newest.ensures) in
    rw (← made) c.restart.ensures.ok
