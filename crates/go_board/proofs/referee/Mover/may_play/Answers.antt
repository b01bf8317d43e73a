use Rattle.go_board.proofs.Common.{rules}
use Rattle.go_board.proofs.referee.Mover.may_play.Goals as goal

-- only there for speed
pub returns-in-BlackAfterPass : goal.returns-in-BlackAfterPass
returns-in-BlackAfterPass c = search rules
