-- None of the numbers from that index on is the colouring.
use Rattle.board_past.proofs.Common.{ℕ, ◌<◌, ◌≤◌, length, all_of, IsNumber}
use Rattle.board_past.proofs.past.print_past.PrintPastPast.holds.Given as goal

abbrev pub invariant-each : goal.invariant-each
invariant-each l = record {
  within : l.number ≤ length (all_of l.self-inside.colourings);
  none : (y : ℕ) → l.number ≤ y → y < length (all_of l.self-inside.colourings) → IsNumber (all_of l.self-inside.colourings) y l.board → ⊥;
}
