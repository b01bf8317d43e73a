use Rattle.board_points.proofs.Common.{rules}
use Rattle.board_points.proofs.LinkedLemmas.{free_beside, has_free, liberty_beside}
use Rattle.board_points.proofs.liberty.columns_with_liberty.Goals as goal

pub returns-clause-from : goal.returns-clause-from
returns-clause-from c = λ col is.
    free_beside c.args.own.now c.args.others.now c.args.row c.row_at-above.result c.row_at-here.result c.row_at-below.result c.row_at-above.ensures.is c.row_at-here.ensures.is c.row_at-below.ensures.is col
    (search rules) (search rules) (search rules) (c.columns_beside.ensures.from col is)

pub returns-clause-to : goal.returns-clause-to
returns-clause-to c = λ q at low free.
    let own = c.args.own.now in
    let others = c.args.others.now in
    c.columns_beside.ensures.to q.col low
    (liberty_beside own others c.args.row _ _ _
    (has_free own others c.args.row 1 c.row_at-above.result.taken c.requires.rows.few (search rules) c.row_at-above.ensures.free)
    (has_free own others c.args.row 2 c.row_at-here.result.taken c.requires.rows.few (search rules) c.row_at-here.ensures.free)
    (has_free own others c.args.row 3 c.row_at-below.result.taken c.requires.rows.few (search rules) c.row_at-below.ensures.free)
    free.0 q at free.1.0 free.2 free.1.1 free.1.2)
