use Rattle.std.proofs.Common.{arith, eqb-true}
use Rattle.sgf_properties.proofs.PointBytes.{four-points}
use Rattle.sgf_properties.proofs.quick.value.are_four_points.Goals as goal

pub returns-clause-four : goal.returns-clause-four
returns-clause-four c is = four-points c.args.text.now c.args.at (omega arith) (λ i. (c.type_inv.text i).fits) (eqb-true _ _ is)
