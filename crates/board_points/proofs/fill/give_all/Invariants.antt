-- The rows that were taken out of the flagged ones have given all that they had.
use Rattle.board_points.proofs.Common.{List, ℕ, length, IsWithin, AreRowsBelow, HaveMore, IsFilledBut}
use Rattle.board_points.proofs.fill.give_all.Given as goal

abbrev pub invariant-flags : goal.invariant-flags
invariant-flags l = record {
  within : IsWithin l.rows l.region;
  waiting_in : AreRowsBelow (length l.region) l.waiting;
  filled : (first : List ℕ) → IsFilledBut l.region first l.fn.rows l.direction l.flags 0 0 0 → IsFilledBut l.region first l.rows l.direction l.waiting l.back 0 0;
  more : HaveMore l.fn.rows l.rows 0 l.back;
}

abbrev pub decreases-flags : goal.decreases-flags
decreases-flags l = l.waiting
