use Rattle.board_points.proofs.RowLemmas.{AddedBelow}
use Rattle.board_points.proofs.rows.add_points.Given as goal

abbrev pub invariant-loop-row : goal.invariant-loop-row
invariant-loop-row l = AddedBelow l.initial.all l.rows l.row l.all
