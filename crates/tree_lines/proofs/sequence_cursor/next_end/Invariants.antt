-- No leaf was passed.
use Rattle.tree_lines.proofs.Common.{first_of, HasNoLeaf}
use Rattle.tree_lines.proofs.sequence_cursor.next_end.Given as goal

abbrev pub invariant-loop-sequence : goal.invariant-loop-sequence
invariant-loop-sequence l = HasNoLeaf l.outline (first_of l.outline l.from) (first_of l.outline l.sequence)
