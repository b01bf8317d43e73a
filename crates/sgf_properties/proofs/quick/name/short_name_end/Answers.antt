use Rattle.sgf_properties.proofs.Common.{arith, common_steps}
use Rattle.sgf_properties.proofs.quick.name.short_name_end.Goals as goal

pub returns-then-is_ascii_uppercase-clause-letters : goal.returns-then-is_ascii_uppercase-clause-letters
returns-then-is_ascii_uppercase-clause-letters c = grind (arith, common_steps) steps 400000
