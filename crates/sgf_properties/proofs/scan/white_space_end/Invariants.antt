use Rattle.sgf_properties.proofs.Common.{◌≡◌, ℕ, ◌-◌, ◌<◌, ◌≤◌, true, length, get_or, is_white_space}
use Rattle.sgf_properties.proofs.scan.white_space_end.Given as goal

abbrev pub invariant-white_space : goal.invariant-white_space
invariant-white_space l = record {
  rises : l.at ≤ l.end;
  within : l.end ≤ length l.text;
  passing : (i : ℕ) → l.at ≤ i → i < l.end → is_white_space (get_or l.text i 0) ≡ true;
}

abbrev pub decreases-white_space : goal.decreases-white_space
decreases-white_space l = length l.text - l.end
