use Rattle.board_points.proofs.Common.{rules}
use Rattle.board_points.proofs.points.Point.is_on.Goals as goal

pub returns-then-self-side : goal.returns-then-self-side
returns-then-self-side c = search rules
