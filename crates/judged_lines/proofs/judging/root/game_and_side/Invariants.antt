-- What is held of the properties that were gone over comes before what the others hold.
use Rattle.judged_lines.proofs.Common.{◌≡◌, codes, option_copied, option_or, first_value}
use Rattle.judged_lines.proofs.judging.root.game_and_side.Given as goal

abbrev pub invariant-loop-property : goal.invariant-loop-property
invariant-loop-property l = record {
  game : first_value (codes "GM") l.root.properties ≡ option_or (option_copied l.game) (first_value (codes "GM") l.property-iterator);
  side : first_value (codes "SZ") l.root.properties ≡ option_or (option_copied l.side) (first_value (codes "SZ") l.property-iterator);
}
