use Rattle.std.proofs.Common.{rules}
use Rattle.tree_lines.proofs.sequence_cursor.SequenceCursor.numbers.Goals as goal

pub returns : goal.returns
returns c = search rules
