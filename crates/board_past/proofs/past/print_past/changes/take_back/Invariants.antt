-- The changes looked at so far are made.
use Rattle.std.proofs.Common.{take}
use Rattle.board_past.proofs.ChangesLemmas.{IsMade}
use Rattle.board_past.proofs.past.print_past.changes.take_back.Given as goal

abbrev pub invariant-each : goal.invariant-each
invariant-each l = IsMade l.fn.board l.board (take l.change-index l.changes) l.left
