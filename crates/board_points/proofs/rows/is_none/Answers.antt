use Rattle.board_points.proofs.Common.{false≢true}
use Rattle.board_points.proofs.RowLemmas.{row_zero}
use Rattle.board_points.proofs.rows.is_none.Goals as goal

pub returns-then-row-ne0 : goal.returns-then-row-ne0
returns-then-row-ne0 c = (λ no. absurd (false≢true no), λ none. absurd (c.if-row-ne0.true (row_zero c.args.rows.now _ none)))
