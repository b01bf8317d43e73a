use Rattle.sgf_properties.proofs.Common.{arith, append_assoc, append-nil}
use Rattle.sgf_properties.proofs.text.push_text.Goals as goal

pub loop-rest-preserved-in-Some : goal.loop-rest-preserved-in-Some
loop-rest-preserved-in-Some c = grind (arith, append_assoc)

pub loop-rest-preserved : goal.loop-rest-preserved
loop-rest-preserved c = grind (arith, append_assoc, append-nil)
