use Rattle.sha2.specs.Hashers.{Holds512}
use Rattle.board_past.specs.inner.Hash.{rows_bytes}
use Rattle.board_past.proofs.past.print_past.hashes.hash_of.Given as goal

abbrev pub invariant-loop-row : goal.invariant-loop-row
invariant-loop-row l = Holds512 l.hasher (rows_bytes l.board l.row)
