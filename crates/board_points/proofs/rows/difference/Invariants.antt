use Rattle.board_points.proofs.Common.{◌≡◌, ℕ, ◌<◌, slice_index, bit_and, w64, bit_not}
use Rattle.board_points.proofs.rows.difference.Given as goal

abbrev pub invariant-loop-row : goal.invariant-loop-row
invariant-loop-row l = (r : ℕ) → r < l.row → slice_index l.left r ≡ bit_and (slice_index l.rows r) (bit_not w64 (slice_index l.others r))
