-- One step up the way counts one sequence more, and its nodes.
use Rattle.tree_lines.proofs.Common.{common_steps, arith}
use Rattle.tree_lines.proofs.SequenceClimbing.{measures, measured}
use Rattle.tree_lines.proofs.sequence_cursor.measure.Goals as goal

pub loop-sequence-preserved : goal.loop-sequence-preserved
loop-sequence-preserved c =
    grind (arith, common_steps, measures c.args.outline.now c.args.last c.in-Some.number c.loop-sequence.sequences c.loop-sequence.nodes c.loop-sequence.sequence c.sequence_outer-sequence.result c.loop-sequence.invariant c.in-Some.is c.sequence_outer-sequence.ensures)

pub returns : goal.returns
returns c = measured c.args.outline.now c.args.last c.loop-sequence.sequences c.loop-sequence.nodes c.loop-sequence.sequence c.loop-sequence.invariant c.in_default.is
