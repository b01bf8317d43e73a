use Rattle.board_points.proofs.Common.{rules, rect_value}
use Rattle.board_points.proofs.values.rect.Goals as goal

pub returns-in_ok-point_of-in-58-clause-value : goal.returns-in_ok-point_of-in-58-clause-value
unfolding rect_value
returns-in_ok-point_of-in-58-clause-value c = search rules
