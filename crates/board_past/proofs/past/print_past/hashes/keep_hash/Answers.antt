use Rattle.board_past.proofs.Common.{arith, common_steps}
use Rattle.board_past.proofs.past.print_past.hashes.keep_hash.Goals as goal

pub each-preserved : goal.each-preserved
each-preserved c = grind (arith, common_steps)
