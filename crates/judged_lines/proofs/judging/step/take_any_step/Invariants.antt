-- What is told is what the properties hold that were taken off.
use Rattle.judged_lines.proofs.Common.{◌≡◌, ◌++◌, List, length, Property, told_property, IsGathered}
use Rattle.judged_lines.proofs.judging.step.take_any_step.Given as goal

abbrev pub invariant-loop-property : goal.invariant-loop-property
invariant-loop-property g l = record {
  gathered : (front : List Property) × IsGathered l.size front l.operations.items l.contents × (front ++ l.nodes.properties ≡ told_property l.fn.front ++ l.initial.nodes.properties);
  left : l.nodes.nodes ≡ l.initial.nodes.nodes;
}

abbrev pub decreases-loop-property : goal.decreases-loop-property
decreases-loop-property g l = length l.nodes.properties
