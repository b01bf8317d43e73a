use Rattle.std.proofs.Common.{rules}
use Rattle.tree_lines.proofs.SequenceCursors.{games_are}
use Rattle.tree_lines.proofs.sequence_cursor.SequenceCursor.seek_after.Goals as goal

-- only there for speed
pub seek_end-requires-clause-is_leaf : goal.seek_end-requires-clause-is_leaf
seek_end-requires-clause-is_leaf c = search (rules, games_are)
