use Rattle.std.proofs.Common.{rules}
use Rattle.tree_lines.proofs.SequenceCursors.{one_before, last_there, place_is}
use Rattle.tree_lines.proofs.sequence_cursor.SequenceCursor.place.Goals as goal

pub returns : goal.returns
returns c = search (rules, one_before, last_there, place_is)
