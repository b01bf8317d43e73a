-- The rows are filled, but for those that can give to the row above them. More rows lack less; else fewer rows are flagged.
use Rattle.board_points.proofs.Common.{◌≡◌, ℕ, ◌+◌, ◌*◌, ◌^◌, ◌&&◌, not, slice_index, has_bit, row_above, Up, lacking, IsFilledBut}
use Rattle.board_points.proofs.GiveLemmas.{IsSwept}
use Rattle.board_points.proofs.fill.fill.Given as goal

abbrev pub invariant-rows : goal.invariant-rows
invariant-rows l = record {
  swept : IsSwept l.region l.fn.rows l.rows l.ups l.row;
  above : l.above ≡ row_above l.rows l.row;
  lacks : (r : ℕ) → r + 1 ≡ l.row → (col : ℕ) → has_bit l.above_lacks col ≡ (has_bit (slice_index l.region r) col && not (has_bit (slice_index l.rows r) col));
}

abbrev pub invariant-passes : goal.invariant-passes
invariant-passes l = IsFilledBut l.region l.fn.rows l.rows Up l.ups 0 0 0

abbrev pub decreases-passes : goal.decreases-passes
decreases-passes l = lacking l.rows * 2 ^ 64 + l.ups
