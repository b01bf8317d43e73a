use Rattle.board_points.proofs.Common.{ℕ, ◌<◌, slice_index}
use Rattle.board_points.proofs.ColumnLemmas.{AreOthers}
use Rattle.board_points.proofs.rows.other_points.Given as goal

abbrev pub invariant-loop-row : goal.invariant-loop-row
invariant-loop-row l = (r : ℕ) → r < l.row → AreOthers l.side (slice_index l.rows r) (slice_index l.others r)
