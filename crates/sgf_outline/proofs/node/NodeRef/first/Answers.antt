use Rattle.sgf_outline.proofs.Common.{rules}
use Rattle.sgf_outline.proofs.node.NodeRef.first.Goals as goal

-- only there for speed
pub returns-then-is : goal.returns-then-is
returns-then-is c = search rules

pub loop-property-preserved : goal.loop-property-preserved
loop-property-preserved c = search rules
