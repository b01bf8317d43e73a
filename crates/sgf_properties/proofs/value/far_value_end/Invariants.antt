use Rattle.std.proofs.Common.{◌-◌, ◌≤◌, length}
use Rattle.sgf_properties.proofs.ValueUnits.{AreValueUnits}
use Rattle.sgf_properties.proofs.value.far_value_end.Given as goal

abbrev pub invariant-brackets : goal.invariant-brackets
invariant-brackets l = record {
  within : l.start ≤ length l.text;
  units : AreValueUnits l.text l.at l.start;
}

abbrev pub decreases-brackets : goal.decreases-brackets
decreases-brackets l = length l.text - l.start
