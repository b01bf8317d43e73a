use Rattle.sgf_lines.proofs.Common.{arith, take_all, common_steps, length-points}
use Rattle.sgf_lines.proofs.CutTexts.{stones-by_point}
use Rattle.sgf_lines.proofs.form.commands.push_stones.Goals as goal

pub returns : goal.returns
returns c = grind (arith, common_steps, length-points, stones-by_point, take_all)
