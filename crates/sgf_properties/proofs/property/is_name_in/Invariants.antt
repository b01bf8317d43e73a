use Rattle.sgf_properties.proofs.Common.{◌≡◌, ◌≤◌, length, take, filter, is_upper}
use Rattle.sgf_properties.proofs.property.is_name_in.Given as goal

abbrev pub invariant-loop-letter : goal.invariant-loop-letter
invariant-loop-letter l = record {
  within : l.matched ≤ length l.name;
  front : filter is_upper (take l.letter-index l.identifier) ≡ take l.matched l.name;
}
