use Rattle.go_board.proofs.Common.{arith, common_steps}
use Rattle.go_board.proofs.referee.Referee.play_pass.Goals as goal

-- these are only there for speed
pub invariant_of-self-2 : goal.invariant_of-self-2
invariant_of-self-2 g c = grind (arith, common_steps)

pub returns-clause-ok : goal.returns-clause-ok
returns-clause-ok g c = grind (arith, common_steps)
