use Rattle.board_past.proofs.EmptiedLemmas.{IsAddedBelow}
use Rattle.board_past.proofs.past.print_past.emptied.Emptied.add.Given as goal

abbrev pub invariant-each : goal.invariant-each
invariant-each l = IsAddedBelow l.initial.self l.points l.number l.row l.self
