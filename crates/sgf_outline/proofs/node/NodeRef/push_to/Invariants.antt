-- With the properties that are left, the node is appended.
use Rattle.sgf_outline.proofs.Common.{◌≡◌, ◌++◌, flat_map, GoesOn, property_text, node_text}
use Rattle.sgf_outline.proofs.node.NodeRef.push_to.Given as goal

abbrev pub invariant-loop-property : goal.invariant-loop-property
invariant-loop-property l = record {
  appended : l.out.items ++ flat_map property_text l.property-iterator ≡ l.fn.out.items ++ node_text l.self;
  goes_on : GoesOn l.fn.out.items l.out.items;
}
