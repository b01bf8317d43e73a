-- The sequences so far are appended, and there is room for the others.
use Rattle.tree_lines.proofs.Common.{◌≡◌, ◌+◌, ◌-◌, ◌≤◌, ◌++◌, vec_capacity, range_with_len}
use Rattle.tree_lines.proofs.sequence_cursor.SequenceCursor.advance.Given as goal

abbrev pub invariant-loop-sequence : goal.invariant-loop-sequence
invariant-loop-sequence l = record {
  appended : l.path.items ≡ l.initial.path.items ++ range_with_len l.first (l.sequence - l.first);
  room : l.front.sequences + (l.end - l.first) ≤ vec_capacity l.path;
}
