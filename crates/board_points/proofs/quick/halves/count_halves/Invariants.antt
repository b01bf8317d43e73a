use Rattle.board_points.proofs.Common.{◌-◌, ◌≤◌, length, low_halves, high_halves}
use Rattle.board_points.proofs.CountLemmas.{IsCounted}
use Rattle.board_points.proofs.quick.halves.count_halves.Given as goal

abbrev pub invariant-rows : goal.invariant-rows
invariant-rows l = record {
  black : IsCounted (length l.areas) (low_halves l.areas) (high_halves l.areas) l.row l.in_black;
  white : IsCounted (length l.areas) (high_halves l.areas) (low_halves l.areas) l.row (l.in_one - l.in_black);
  black_too : l.in_black ≤ l.in_one;
}
