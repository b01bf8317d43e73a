-- The steps to the newest colouring that were gone over only put stones.
use Rattle.board_past.specs.Past.{all_of}
use Rattle.board_past.proofs.ColouringsLemmas.{IsPassed}
use Rattle.board_past.proofs.past.print_past.colourings.Colourings.newest_steps_show_new.Given as goal

abbrev pub invariant-each : goal.invariant-each
invariant-each l = IsPassed (all_of l.self) l.self-inside.older.items l.self-inside.changes.items l.self-inside.stretch_start l.number l.self-inside.newest l.fn.point
