use Rattle.sgf_properties.proofs.Common.{◌-◌, length, AreEscapes}
use Rattle.sgf_properties.proofs.value.escapes_end.Given as goal

abbrev pub invariant-escapes : goal.invariant-escapes
invariant-escapes l = AreEscapes l.text l.at l.end

abbrev pub decreases-escapes : goal.decreases-escapes
decreases-escapes l = length l.text - l.end
