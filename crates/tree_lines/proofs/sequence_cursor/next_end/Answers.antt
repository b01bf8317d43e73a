-- A sequence that ends in no leaf has none.
use Rattle.tree_lines.proofs.Common.{arith, rules, both_ways, common_steps}
use Rattle.tree_lines.proofs.SequenceStarts.{no_leaf_inside, no_leaf_more, past_all}
use Rattle.tree_lines.proofs.sequence_cursor.next_end.Goals as goal

pub returns-then-ends_in_leaf-clause-first : goal.returns-then-ends_in_leaf-clause-first
returns-then-ends_in_leaf-clause-first c =
    grind (arith, common_steps, no_leaf_inside c.args.outline.now c.args.from c.loop-sequence.sequence (omega (arith, c.sequences-sequence-end.ensures.count, c.loop-sequence-test.true)) c.loop-sequence.invariant)

pub loop-sequence-preserved : goal.loop-sequence-preserved
loop-sequence-preserved c =
    no_leaf_more c.args.outline.now c.args.from c.loop-sequence.sequence (omega (arith, c.sequences-sequence-end.ensures.count, c.loop-sequence-test.true)) c.loop-sequence.invariant
    (λ leaf. both_ways c.ends_in_leaf.result c.if-ends_in_leaf.false (c.ends_in_leaf.ensures.1 leaf))

pub returns-clause-first : goal.returns-clause-first
returns-clause-first c = search (rules, past_all)
