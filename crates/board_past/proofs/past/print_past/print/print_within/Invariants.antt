use Rattle.board_past.proofs.Common.{◌≡◌, ◌%◌, ◌^◌, slice_index, in_base, row_within}
use Rattle.board_past.proofs.past.print_past.print.print_within.Given as goal

abbrev pub invariant-loop-row : goal.invariant-loop-row
invariant-loop-row l =
    l.print ≡ in_base (31 ^ l.board.side) l.row (λ row. row_within l.board (slice_index l.points row) row) % 2 ^ 64
