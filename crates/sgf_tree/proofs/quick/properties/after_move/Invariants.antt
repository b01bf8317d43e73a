use Rattle.sgf_tree.proofs.Common.{◌-◌, ◌≤◌, length, StandsIn}
use Rattle.sgf_tree.proofs.ShortProperties.{AreReadTo, ReadSoFar}
use Rattle.sgf_tree.proofs.quick.properties.after_move.Given as goal

abbrev pub invariant-near : goal.invariant-near
invariant-near l = record {
  within : l.end ≤ length l.text;
  so_far : AreReadTo l.text l.at l.end;
}

abbrev pub decreases-near : goal.decreases-near
decreases-near l = length l.text - l.end

abbrev pub invariant-properties : goal.invariant-properties
invariant-properties l = ReadSoFar (StandsIn l.text l.at l.read.text_end) l.text l.at l.read.text_end l.read.end

abbrev pub decreases-properties : goal.decreases-properties
decreases-properties l = length l.text - l.read.end
