-- The colouring of the number at which the loop is, and its print. The prints from that number on are written.
use Rattle.board_past.proofs.Common.{◌≡◌, ℕ, ◌+◌, ◌-◌, ◌≤◌, ◌++◌, length, drop, reverse, all_of, print_of, prints_of}
use Rattle.board_past.proofs.ColouringsLemmas.{IsThere}
use Rattle.board_past.proofs.past.print_past.colourings.Colourings.write_prints.Given as goal

abbrev pub invariant-each : goal.invariant-each
invariant-each l = record {
  there : (start : ℕ) × IsThere (all_of l.self) l.self-inside.older.items l.self-inside.changes.items l.at l.end start l.past;
  high : l.at ≤ length l.self-inside.older.items;
  all : length l.prints ≡ length (all_of l.self);
  written : prints_of (all_of l.self) ≡ reverse (drop l.at l.prints) ++ prints_of (drop (length l.self-inside.older.items - l.at + 1) (all_of l.self));
  print : l.print ≡ print_of l.past;
}

abbrev pub decreases-each : goal.decreases-each
decreases-each l = l.at
