-- The next line has the front that is kept, and the nodes down to its leaf.
use Rattle.tree_lines.proofs.Common.{common_steps, arith}
use Rattle.tree_lines.proofs.SequenceStarts.{start_is}
use Rattle.tree_lines.proofs.SequenceCursors.{no_nodes, front_before, next_long, next_rises}
use Rattle.tree_lines.proofs.sequence_cursor.SequenceCursor.next_len.Goals as goal

pub returns-in_default : goal.returns-in_default
returns-in_default c = no_nodes c.self.inside.outline.now c.self.inside.next c.self.inside.path.items c.self.invariant.after c.args.self.now c.self.view_is c.in_default.ensures.first

pub overflow_sub-result : goal.overflow_sub-result
overflow_sub-result c =
    grind (arith, common_steps, next_rises c.self.inside.outline.now c.self.inside.next c.self.inside.path.items c.self.invariant.after c.args.self.now c.self.view_is c.in-Some.leaf c.sequence_outer-outer.result c.front_up_to-front.result c.in-Some.ensures.first c.sequence_outer-outer.ensures (rw c.deref.ensures.value at c.front_up_to-front.ensures))

pub overflow_add-result : goal.overflow_add-result
overflow_add-result c =
    grind (arith, common_steps, next_rises c.self.inside.outline.now c.self.inside.next c.self.inside.path.items c.self.invariant.after c.args.self.now c.self.view_is c.in-Some.leaf c.sequence_outer-outer.result c.front_up_to-front.result c.in-Some.ensures.first c.sequence_outer-outer.ensures (rw c.deref.ensures.value at c.front_up_to-front.ensures), front_before c.self.inside.outline.now c.self.inside.next c.self.inside.path.items c.self.invariant.after c.args.self.now c.self.view_is c.in-Some.leaf c.sequence_outer-outer.result c.front_up_to-front.result c.in-Some.ensures.first c.sequence_outer-outer.ensures (rw c.deref.ensures.value at c.front_up_to-front.ensures), start_is c.self.inside.outline.now c.self.inside.next (omega (arith, c.in-Some.ensures.first.from_there, c.in-Some.ensures.first.within)))

pub returns : goal.returns
returns c =
    next_long c.self.inside.outline.now c.self.inside.next c.self.inside.path.items c.self.invariant.after c.args.self.now c.self.view_is c.in-Some.leaf c.sequence_outer-outer.result c.front_up_to-front.result c.in-Some.ensures.first c.sequence_outer-outer.ensures
    (rw c.deref.ensures.value at c.front_up_to-front.ensures)
    c.sequence_start-first.result c.sequence_end.result c.sequence_start-first.ensures c.sequence_end.ensures.end
