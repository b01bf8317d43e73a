use Rattle.std.proofs.Common.{rules}
use Rattle.tree_lines.proofs.SequenceCursors.{part_there, root_is}
use Rattle.tree_lines.proofs.sequence_cursor.SequenceCursor.root.Goals as goal

pub returns : goal.returns
returns c = search (rules, part_there, root_is)
