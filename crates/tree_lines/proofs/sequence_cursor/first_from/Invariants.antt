-- The last nodes of all sequences before `low` are before the place, and that of the sequence `high` isn't.
use Rattle.tree_lines.proofs.Common.{◌≡◌, ◌-◌, ◌<◌, ◌≤◌, ℕ, Some, length, place_at, sequence_starts, sequence_end}
use Rattle.tree_lines.proofs.sequence_cursor.first_from.Given as goal

abbrev pub invariant-loop-low : goal.invariant-loop-low
invariant-loop-low l = record {
  order : l.low ≤ l.high;
  within : l.high ≤ length (sequence_starts l.outline);
  before : (earlier here : ℕ) → earlier < l.low → place_at l.outline (sequence_end l.outline earlier - 1) ≡ Some here → here < l.place;
  after : (here : ℕ) → l.high < length (sequence_starts l.outline) → place_at l.outline (sequence_end l.outline l.high - 1) ≡ Some here → l.place ≤ here;
}

abbrev pub decreases-loop-low : goal.decreases-loop-low
decreases-loop-low l = l.high - l.low
