-- The numbers of the sequences that the loop has passed are written.
use Rattle.tree_lines.proofs.SequenceClimbing.{IsFilled, height}
use Rattle.tree_lines.proofs.sequence_cursor.fill_path.Given as goal

abbrev pub invariant-loop-sequence : goal.invariant-loop-sequence
invariant-loop-sequence l = IsFilled l.outline l.last l.sequence l.room l.path

abbrev pub decreases-loop-sequence : goal.decreases-loop-sequence
decreases-loop-sequence l = height l.sequence
