use Rattle.board_points.proofs.Common.{rules}
use Rattle.board_points.specs.Values.{point_value}
use Rattle.board_points.proofs.values.point.Goals as goal

pub returns-clause-value : goal.returns-clause-value
unfolding point_value
returns-clause-value c = search rules
