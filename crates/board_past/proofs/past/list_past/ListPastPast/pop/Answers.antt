use Rattle.board_past.proofs.Common.{arith, common_steps}
use Rattle.board_past.proofs.past.list_past.ListPastPast.pop.Goals as goal

-- only there for speed
pub returns : goal.returns
returns c = grind (arith, common_steps)
