use Rattle.sgf_tree.proofs.Common.{common_steps, arith}
use Rattle.sgf_tree.proofs.reader.counting.TallyVisitor.own_nodes.Goals as goal

pub returns : goal.returns
returns c = grind (arith, common_steps)
