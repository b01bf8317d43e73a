use Rattle.sgf_properties.proofs.Common.{arith, common_steps}
use Rattle.sgf_properties.proofs.property.is_name_in.Goals as goal

pub loop-letter-preserved : goal.loop-letter-preserved
loop-letter-preserved c = grind (arith, common_steps) steps 1200000
