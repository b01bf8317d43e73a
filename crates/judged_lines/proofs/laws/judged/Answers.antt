use Rattle.judged_lines.proofs.Common.{arith, common_steps}
use Rattle.judged_lines.proofs.Walking.{scores, refuses, ends}
use Rattle.judged_lines.proofs.laws.judged.Goals as goal

pub returns : goal.returns
returns c = grind (arith, common_steps, scores, refuses, ends)
