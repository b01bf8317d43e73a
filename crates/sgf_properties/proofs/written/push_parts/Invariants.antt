-- With the values that are left, the property is appended.
use Rattle.std.proofs.Common.{◌≡◌, ◌++◌, flat_map}
use Rattle.sgf_properties.specs.Written.{value_text, property_text, GoesOn}
use Rattle.sgf_properties.proofs.written.push_parts.Given as goal

abbrev pub invariant-loop-value : goal.invariant-loop-value
invariant-loop-value l = record {
  appended : l.out.items ++ flat_map value_text l.value-iterator ≡ l.fn.out.items ++ property_text l.property;
  goes_on : GoesOn l.fn.out.items l.out.items;
}
