use Rattle.sgf_properties.proofs.Common.{◌≡◌, ◌≤◌, ◌+◌, ◌-◌, ◌++◌, length, take, filter, vec_len, vec_capacity, is_upper}
use Rattle.sgf_properties.proofs.property.PropRef.push_name.Given as goal

abbrev pub invariant-loop-letter : goal.invariant-loop-letter
invariant-loop-letter l = record {
  room : vec_len l.out + (length l.identifier - l.letter-index) ≤ vec_capacity l.out;
  front : l.out.items ≡ l.fn.out.items ++ filter is_upper (take l.letter-index l.identifier);
}
