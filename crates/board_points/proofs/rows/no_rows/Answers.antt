use Rattle.board_points.proofs.Common.{rules}
use Rattle.board_points.proofs.rows.no_rows.Goals as goal

pub returns : goal.returns
returns c = search rules
