-- The path goes up to the next sequence, and there is room for the nodes after it.
use Rattle.tree_lines.proofs.Common.{◌≡◌, ◌+◌, ◌-◌, ◌≤◌, ◌++◌, length, drop, vec_len, vec_capacity, range_with_len, nodes_before, path_before, nodes_in}
use Rattle.tree_lines.proofs.cursor.write_path.Given as goal

abbrev pub invariant-loop-index : goal.invariant-loop-index
invariant-loop-index l = record {
  up_to : l.path.items ++ drop (nodes_in l.sequences.ends l.index) (path_before l.sequences.at) ≡ path_before l.sequences.at;
  room : length (nodes_before l.sequences.at) ≤ vec_capacity l.path;
}

-- The numbers of the sequence so far are appended, and there is room for the others.
abbrev pub invariant-loop-number : goal.invariant-loop-number
invariant-loop-number l = record {
  appended : l.path.items ≡ l.initial.path.items ++ range_with_len l.first (l.number - l.first);
  room : vec_len l.initial.path + (l.end - l.first) ≤ vec_capacity l.path;
  all : length (nodes_before l.sequences.at) ≤ vec_capacity l.path;
}
