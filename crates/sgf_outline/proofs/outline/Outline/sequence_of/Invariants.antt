-- The node stands from the sequence `low` on and before the sequence `high`.
use Rattle.sgf_outline.proofs.Common.{◌-◌, ◌<◌, ◌≤◌, length, get_or, sequence_starts, sequence_start, node_count}
use Rattle.sgf_outline.proofs.outline.Outline.sequence_of.Given as goal

abbrev pub invariant-halves : goal.invariant-halves
invariant-halves l = record {
  order : l.low < l.high;
  within : l.high ≤ length (sequence_starts l.self);
  start : sequence_start l.self l.low ≤ l.number;
  end : l.number < get_or (sequence_starts l.self) l.high (node_count l.self);
}

abbrev pub decreases-halves : goal.decreases-halves
decreases-halves l = l.high - l.low
