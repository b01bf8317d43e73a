-- The colouring of the number at which the loop is. The stretch has the looked for colouring exactly if the stretch of that number has it.
use Rattle.board_past.proofs.Common.{◌≡◌, ◌↔◌, ◌-◌, ◌≤◌, Contains, length, drop, all_of, present_stretch, stretch_of}
use Rattle.board_past.proofs.ColouringsLemmas.{IsThere}
use Rattle.board_past.proofs.past.print_past.colourings.Colourings.look_back.Given as goal

abbrev pub invariant-each : goal.invariant-each
invariant-each l = record {
  there : IsThere (all_of l.self) l.self-inside.older.items l.self-inside.changes.items l.at l.end l.self-inside.stretch_start l.past;
  side : l.made.side ≡ l.past.side;
  high : l.at ≤ length l.self-inside.older.items;
  same : Contains (present_stretch l.self) l.made ↔ Contains (stretch_of (drop (length l.self-inside.older.items - l.at) (all_of l.self))) l.made;
}
