use Rattle.sgf_properties.proofs.Common.{◌-◌, ◌≤◌, length, ArePoints, IsBracket}
use Rattle.sgf_properties.proofs.quick.value.past_points.Given as goal

abbrev pub invariant-points : goal.invariant-points
invariant-points l = record {
  points : ArePoints l.text l.at l.end;
  within : l.end ≤ length l.text;
  stands : IsBracket l.text l.at → IsBracket l.text l.end;
}

abbrev pub decreases-points : goal.decreases-points
decreases-points l = length l.text - l.end
