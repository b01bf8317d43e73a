use Rattle.board_points.proofs.Common.{rules}
use Rattle.board_points.proofs.points.Point.index.Goals as goal

pub returns-clause-value : goal.returns-clause-value
returns-clause-value c = search rules
