use Rattle.sgf_properties.proofs.Common.{ℕ, ◌-◌, ◌≤◌, List, length, drop, ArePropValues}
use Rattle.sgf_properties.proofs.iter.more_values_end.Given as goal

abbrev pub invariant-values : goal.invariant-values
invariant-values l = record {
  rises : l.at ≤ l.end;
  within : l.end ≤ length l.text;
  values : List (List ℕ);
  spelled : ArePropValues values (drop l.at l.text) (drop l.end l.text);
}

abbrev pub decreases-values : goal.decreases-values
decreases-values l = length l.text - l.end
