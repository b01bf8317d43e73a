-- The line is judged from its root.
use Rattle.judged_lines.proofs.Common.{arith, common_steps, some_end}
use Rattle.judged_lines.proofs.LineVerdicts.{told_of}
use Rattle.judged_lines.proofs.judging.one_line.judge_before.Goals as goal

pub returns : goal.returns
returns c = grind (arith, common_steps, told_of, some_end)
