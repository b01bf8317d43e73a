use Rattle.board_points.proofs.Common.{rules}
use Rattle.board_points.proofs.size.Size.points.Goals as goal

pub returns : goal.returns
returns c = search rules
