use Rattle.sgf_outline.proofs.node.NodeRef.iter.Goals as goal

pub returns : goal.returns
returns c = cc
