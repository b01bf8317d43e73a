use Rattle.tree_lines.proofs.Common.{common_steps, arith}
use Rattle.tree_lines.proofs.sequence_cursor.SequenceCursor.nodes.Goals as goal

pub returns : goal.returns
returns c = grind (arith, common_steps)
