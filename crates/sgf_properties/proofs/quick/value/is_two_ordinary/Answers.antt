use Rattle.sgf_properties.proofs.Common.{arith, common_steps}
use Rattle.sgf_properties.proofs.quick.value.is_two_ordinary.Goals as goal

pub returns-then-text-at-ne93-2 : goal.returns-then-text-at-ne93-2
returns-then-text-at-ne93-2 c = grind (arith, common_steps) steps 400000
