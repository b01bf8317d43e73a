use Rattle.sgf_properties.proofs.Common.{arith, common_steps}
use Rattle.sgf_properties.proofs.quick.name.is_short_name.Goals as goal

pub returns-then-is_ascii_uppercase : goal.returns-then-is_ascii_uppercase
returns-then-is_ascii_uppercase c = grind (arith, common_steps)
