use Rattle.board_points.proofs.Common.{◌<◌, IsTrue, Point, HasLiberty, is_set}
use Rattle.board_points.proofs.quick.group.some_lives.Given as goal

abbrev pub invariant-rows : goal.invariant-rows
invariant-rows l = (stone : Point) → stone.row < l.row → IsTrue (is_set l.group stone) → ¬ (HasLiberty l.own l.others stone)
