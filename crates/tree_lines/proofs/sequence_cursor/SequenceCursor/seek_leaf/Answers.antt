-- The leaf is the last node of its sequence.
use Rattle.tree_lines.proofs.Common.{◌≡◌, ◌+◌, arith, common_steps, sequence_end}
use Rattle.tree_lines.proofs.SequenceCursors.{leaf_ends}
use Rattle.tree_lines.proofs.sequence_cursor.SequenceCursor.seek_leaf.Goals as goal
use Rattle.tree_lines.proofs.sequence_cursor.SequenceCursor.seek_leaf.Goals.{After-sequence_of-sequence}

ends : (c : After-sequence_of-sequence) → c.args.leaf + 1 ≡ sequence_end c.args.self.now.at.games c.sequence_of-sequence.result
ends c =
    leaf_ends c.self.inside.outline.now c.self.inside.next c.self.inside.path.items c.self.invariant.after c.args.self.now c.self.view_is c.args.leaf c.sequence_of-sequence.result c.sequence_of-sequence.ensures.within c.sequence_of-sequence.ensures.start c.sequence_of-sequence.ensures.end c.requires.is_leaf

pub seek_end-requires-clause-is_leaf : goal.seek_end-requires-clause-is_leaf
seek_end-requires-clause-is_leaf c = grind (arith, common_steps, ends)

pub returns-clause-sought : goal.returns-clause-sought
returns-clause-sought c = rw (ends (goal.at.returns-clause-sought c).After-sequence_of-sequence) c.seek_end.ensures.sought
