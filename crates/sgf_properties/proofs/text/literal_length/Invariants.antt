use Rattle.sgf_properties.proofs.Common.{◌-◌, ◌≤◌, length, AreLiterals}
use Rattle.sgf_properties.proofs.text.literal_length.Given as goal

-- the bytes so far are literal
abbrev pub invariant-together : goal.invariant-together
invariant-together l = record {
  within : l.end ≤ length l.raw;
  so_far : AreLiterals l.raw 0 l.end;
}

abbrev pub decreases-together : goal.decreases-together
decreases-together l = length l.raw - l.end

abbrev pub invariant-bytes : goal.invariant-bytes
invariant-bytes l = record {
  within : l.end ≤ length l.raw;
  so_far : AreLiterals l.raw 0 l.end;
}

abbrev pub decreases-bytes : goal.decreases-bytes
decreases-bytes l = length l.raw - l.end
