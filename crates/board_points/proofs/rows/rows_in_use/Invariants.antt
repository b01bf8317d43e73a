-- The rows from `count` on have no point.
use Rattle.board_points.proofs.Common.{◌≡◌, ℕ, ◌≤◌, length, slice_index}
use Rattle.board_points.proofs.rows.rows_in_use.Given as goal

abbrev pub invariant-rows : goal.invariant-rows
invariant-rows l = record { few : l.count ≤ length l.rows; none : (row : ℕ) → l.count ≤ row → slice_index l.rows row ≡ 0 }

abbrev pub decreases-rows : goal.decreases-rows
decreases-rows l = l.count
