use Rattle.board_stones.proofs.Common.{◌∙◌, sym, ap, arith, is_in, with_rectangle, with_columns}
use Rattle.board_stones.proofs.RectangleLemmas.{rectangle_columns, rectangle_rows}
use Rattle.board_stones.proofs.SweepLemmas.{painted_none, painted_more, painted_all}
use Rattle.board_stones.proofs.board.Board.colour_rectangle.Goals as goal

pub rows-init : goal.rows-init
rows-init c =
    sym (painted_none c.args.self.now (is_in c.args.op.area) c.args.op.cell _ c.has_all_cells.ensures.all (λ p is. (rectangle_rows c.args.op.area p is).0))

pub rows-preserved : goal.rows-preserved
rows-preserved c =
    let op = c.args.op in
    let columns = c.columns_between-columns.result in
    c.colour_columns.ensures
    ∙ ap (λ g. with_columns g c.rows.row columns op.cell) c.rows.invariant
    ∙ painted_more c.args.self.now (is_in op.area) op.cell c.rows.row columns
    (λ p at. rectangle_columns op.area columns p c.columns_between-columns.ensures (omega (arith, at)) (omega (arith, at)))

pub returns : goal.returns
unfolding with_rectangle
returns c =
    c.rows.invariant
    ∙ painted_all c.args.self.now (is_in c.args.op.area) c.args.op.cell c.rows.row
    (λ p is. let rows = rectangle_rows c.args.op.area p is in omega (arith, rows, c.rows-test.false))
