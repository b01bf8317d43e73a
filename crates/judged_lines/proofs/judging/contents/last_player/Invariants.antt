-- The last player of all values is that of those left after the one that was met last.
use Rattle.judged_lines.proofs.Common.{◌≡◌, Option, Some, length, values, Colour, last_player}
use Rattle.judged_lines.proofs.judging.contents.last_player.Given as goal

abbrev pub invariant-loop-raw : goal.invariant-loop-raw
invariant-loop-raw l = (before : Option Colour) → last_player before (values l.property) ≡ last_player (Some l.last) l.values

abbrev pub decreases-loop-raw : goal.decreases-loop-raw
decreases-loop-raw l = length l.values
