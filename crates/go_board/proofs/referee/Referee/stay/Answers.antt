use Rattle.go_board.proofs.Common.{arith, common_steps}
use Rattle.go_board.proofs.referee.Referee.stay.Goals as goal

-- for speed, and by a search, since a term would name a step that a wrong body doesn't have
pub returns-clause-ok : goal.returns-clause-ok
returns-clause-ok g c = grind (arith, common_steps)
