use Rattle.sgf_properties.proofs.Common.{arith, common_steps}
use Rattle.sgf_properties.proofs.written.push_property.Goals as goal

pub returns-then-is_err-clause-unchanged : goal.returns-then-is_err-clause-unchanged
returns-then-is_err-clause-unchanged c = grind (arith, common_steps) steps 400000
