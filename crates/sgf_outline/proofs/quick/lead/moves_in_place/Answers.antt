use Rattle.std.proofs.Common.{arith}
use Rattle.sgf_outline.proofs.MoveBytes.{first-node, second-node}
use Rattle.sgf_outline.proofs.quick.lead.moves_in_place.Goals as goal

pub returns-clause-first : goal.returns-clause-first
returns-clause-first c = first-node c.args.text.now c.args.at (omega arith) (λ i. (c.type_inv.text i).fits)

pub returns-clause-second : goal.returns-clause-second
returns-clause-second c = second-node c.args.text.now c.args.at (omega arith) (λ i. (c.type_inv.text i).fits)
