use Rattle.go_board.proofs.Common.{arith, common_steps}
use Rattle.go_board.proofs.referee.Referee.newest_left_board.Goals as goal

-- only there for speed
pub returns : goal.returns
returns g c = grind (arith, common_steps)
