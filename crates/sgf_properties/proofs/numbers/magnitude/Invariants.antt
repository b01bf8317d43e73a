use Rattle.sgf_properties.proofs.Common.{◌≡◌, true, take, list_all, is_digit, decimal_value}
use Rattle.sgf_properties.proofs.numbers.magnitude.Given as goal

-- the bytes so far are digits, and this is their value
abbrev pub invariant-loop-digit : goal.invariant-loop-digit
invariant-loop-digit l = record {
  digits : list_all is_digit (take l.digit-index l.digits) ≡ true;
  so_far : l.value ≡ decimal_value (take l.digit-index l.digits);
}
