-- The sequences and nodes that the loop has passed are counted.
use Rattle.tree_lines.proofs.SequenceClimbing.{IsMeasured, height}
use Rattle.tree_lines.proofs.sequence_cursor.measure.Given as goal

abbrev pub invariant-loop-sequence : goal.invariant-loop-sequence
invariant-loop-sequence l = IsMeasured l.outline l.last l.sequence l.sequences l.nodes

abbrev pub decreases-loop-sequence : goal.decreases-loop-sequence
decreases-loop-sequence l = height l.sequence
