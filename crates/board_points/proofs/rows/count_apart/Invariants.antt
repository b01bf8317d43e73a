use Rattle.board_points.proofs.Common.{length}
use Rattle.board_points.proofs.CountLemmas.{IsCounted}
use Rattle.board_points.proofs.rows.count_apart.Given as goal

abbrev pub invariant-loop-row : goal.invariant-loop-row
invariant-loop-row l = IsCounted (length l.rows) l.rows l.others l.row l.count
