use Rattle.sgf_outline.proofs.Common.{◌-◌, length, AreOtherProperties}
use Rattle.sgf_outline.proofs.quick.lead.led_end.Given as goal

abbrev pub invariant-properties : goal.invariant-properties
invariant-properties l = AreOtherProperties l.names l.text 6 l.end

abbrev pub decreases-properties : goal.decreases-properties
decreases-properties l = length l.text - l.end
