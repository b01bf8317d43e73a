use Rattle.board_points.proofs.Common.{◌≡◌, ℕ, ◌<◌, slice_index}
use Rattle.board_points.proofs.rows.is_none.Given as goal

abbrev pub invariant-loop-row : goal.invariant-loop-row
invariant-loop-row l = (r : ℕ) → r < l.row-index → slice_index l.rows r ≡ 0
