use Rattle.board_past.proofs.Common.{◌≡◌, ◌%◌, ◌^◌, in_base, row_number}
use Rattle.board_past.proofs.past.print_past.print.print_of.Given as goal

abbrev pub invariant-loop-row : goal.invariant-loop-row
invariant-loop-row l = l.print ≡ in_base (31 ^ l.board.side) l.row (row_number l.board) % 2 ^ 64
