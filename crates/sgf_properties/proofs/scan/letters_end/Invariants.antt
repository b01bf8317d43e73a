use Rattle.sgf_properties.proofs.Common.{◌≡◌, ℕ, ◌-◌, ◌<◌, ◌≤◌, true, length, get_or, is_letter}
use Rattle.sgf_properties.proofs.scan.letters_end.Given as goal

abbrev pub invariant-letters : goal.invariant-letters
invariant-letters l = record {
  rises : l.at ≤ l.end;
  within : l.end ≤ length l.text;
  passing : (i : ℕ) → l.at ≤ i → i < l.end → is_letter (get_or l.text i 0) ≡ true;
}

abbrev pub decreases-letters : goal.decreases-letters
decreases-letters l = length l.text - l.end
