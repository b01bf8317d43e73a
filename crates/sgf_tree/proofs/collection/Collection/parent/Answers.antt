use Rattle.sgf_tree.proofs.Common.{common_steps, arith, sequence-further}
use Rattle.sgf_tree.proofs.collection.Collection.parent.Goals as goal

pub returns-then-sequence_start-i : goal.returns-then-sequence_start-i
returns-then-sequence_start-i c = grind (arith, common_steps, sequence-further)

pub returns : goal.returns
returns c = grind (arith, common_steps)
