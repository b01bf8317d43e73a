use Rattle.sgf_properties.proofs.Common.{arith, common_steps}
use Rattle.sgf_properties.proofs.numbers.number.Goals as goal

pub returns-in_ok-magnitude-in-45 : goal.returns-in_ok-magnitude-in-45
returns-in_ok-magnitude-in-45 c = grind (arith, common_steps) steps 1200000

pub returns-in_ok-magnitude-in-43 : goal.returns-in_ok-magnitude-in-43
returns-in_ok-magnitude-in-43 c = grind (arith, common_steps)

pub returns-in_ok-magnitude-in_default : goal.returns-in_ok-magnitude-in_default
returns-in_ok-magnitude-in_default c = grind (arith, common_steps)
