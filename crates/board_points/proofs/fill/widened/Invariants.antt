use Rattle.board_points.proofs.Common.{IsWidened}
use Rattle.board_points.proofs.CarryLemmas.{AreLeft}
use Rattle.board_points.proofs.fill.widened.Given as goal

abbrev pub invariant-widen : goal.invariant-widen
invariant-widen l = record { wide : IsWidened l.region l.seed l.word; left : AreLeft l.region l.word l.left }

abbrev pub decreases-widen : goal.decreases-widen
decreases-widen l = l.left
