-- The sequences from the end of the path that were passed are others, and their nodes aren't counted.
use Rattle.tree_lines.proofs.Common.{◌≡◌, ◌≢◌, ◌≤◌, ℕ, length, slice_get, take, Some, Part, parts_of, part_numbers}
use Rattle.tree_lines.proofs.sequence_cursor.front_up_to.Given as goal

abbrev pub invariant-loop-sequences : goal.invariant-loop-sequences
invariant-loop-sequences l = record {
  within : l.sequences ≤ length l.path;
  count : l.nodes ≡ length (part_numbers l.outline (take l.sequences (parts_of l.outline 0 l.path)));
  others : (i : ℕ) (part : Part) → l.sequences ≤ i → slice_get (parts_of l.outline 0 l.path) i ≡ Some part → part.sequence ≢ l.outer;
}

abbrev pub decreases-loop-sequences : goal.decreases-loop-sequences
decreases-loop-sequences l = l.sequences
