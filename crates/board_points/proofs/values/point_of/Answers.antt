use Rattle.board_points.proofs.Common.{rules}
use Rattle.board_points.proofs.values.point_of.Goals as goal

pub returns : goal.returns
returns c = search rules
