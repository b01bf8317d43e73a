use Rattle.board_points.proofs.Common.{ℕ, ◌<◌, slice_index}
use Rattle.board_points.proofs.LinkedLemmas.{HaveLibertyInRow}
use Rattle.board_points.proofs.liberty.stones_with_liberty.Given as goal

abbrev pub invariant-loop-row : goal.invariant-loop-row
invariant-loop-row l = (r : ℕ) → r < l.row → HaveLibertyInRow l.own l.others r (slice_index l.found r)
