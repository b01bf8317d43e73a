-- With the segments that are left, up to the last one of the sequence, all is appended.
use Rattle.sgf_outline.proofs.Common.{◌≡◌, ℕ, ◌-◌, List, ◌++◌, length, drop, flat_map, GoesOn, nodes_at, sequence_numbers, AreWhole, node_text}
use Rattle.sgf_outline.proofs.outline.Outline.push_sequence.Given as goal

abbrev pub invariant-segments : goal.invariant-segments
invariant-segments l = record {
  left : List ℕ;
  whole : AreWhole l.self-inside.text.now (drop l.at l.self-inside.sequences.segments.items) left;
  appended : l.out.items ++ left ≡ l.fn.out.items ++ flat_map node_text (nodes_at l.self (sequence_numbers l.self l.i));
  goes_on : GoesOn l.fn.out.items l.out.items;
}

abbrev pub decreases-segments : goal.decreases-segments
decreases-segments l = length l.self-inside.sequences.segments.items - l.at
