-- The lines that follow the line with the place are those after the cursor.
use Rattle.sgf_lines.proofs.Common.{arith, common_steps}
use Rattle.sgf_lines.proofs.Pages.{started}
use Rattle.sgf_lines.proofs.run.cursor_after.Goals as goal

pub returns-in-Ok-clause-start : goal.returns-in-Ok-clause-start
returns-in-Ok-clause-start c = grind (arith, common_steps, started)
