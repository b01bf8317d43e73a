use Rattle.std.proofs.Common.{arith}
use Rattle.sgf_outline.proofs.Traversing.{between_some, between_none}
use Rattle.sgf_outline.proofs.traversal.SequenceNodes.is_empty.Goals as goal

pub returns : goal.returns
returns c = grind (arith, between_some, between_none) steps 200000
