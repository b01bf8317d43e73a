use Rattle.std.proofs.Common.{◌≡◌, ℕ, ◌<◌, ◌≤◌, get_or}
use Rattle.sgf_properties.proofs.value.first_escape.Given as goal

abbrev pub invariant-escapes : goal.invariant-escapes
invariant-escapes l = record {
  low : l.at ≤ l.first;
  rises : l.first ≤ l.end;
  escapes : (i : ℕ) → l.first ≤ i → i < l.end → get_or l.text i 0 ≡ 92;
}

abbrev pub decreases-escapes : goal.decreases-escapes
decreases-escapes l = l.first
