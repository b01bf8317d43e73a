-- The board is that of the number at which the loop is, and that number isn't below the wanted one.
use Rattle.board_past.proofs.Common.{ℕ, ◌-◌, ◌≤◌, length, all_of}
use Rattle.board_past.proofs.ColouringsLemmas.{IsThere}
use Rattle.board_past.proofs.past.print_past.colourings.Colourings.board_at.Given as goal

abbrev pub invariant-each : goal.invariant-each
invariant-each l = record {
  there : (start : ℕ) × IsThere (all_of l.self) l.self-inside.older.items l.self-inside.changes.items l.at l.end start l.board;
  low : l.number ≤ l.at;
  high : l.at ≤ length l.self-inside.older.items;
}

abbrev pub decreases-each : goal.decreases-each
decreases-each l = l.at - l.number
