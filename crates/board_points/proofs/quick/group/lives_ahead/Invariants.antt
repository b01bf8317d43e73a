-- The group grew. The row has yet to give `given` to the next one.
use Rattle.board_points.proofs.Common.{◌<◌, length, slice_index, has_bit, is_set, Grows, IsWithin, IsPart}
use Rattle.board_points.proofs.GiveLemmas.{rows_ahead}
use Rattle.board_points.proofs.quick.group.lives_ahead.Given as goal

abbrev pub invariant-rows : goal.invariant-rows
invariant-rows l = record {
  within : IsWithin l.group l.own;
  grows : Grows (is_set l.own) (is_set l.fn.group) (is_set l.group);
  row : l.row < length l.own;
  given : IsPart (has_bit l.given) (has_bit (slice_index l.group l.row));
}

abbrev pub decreases-rows : goal.decreases-rows
decreases-rows l = rows_ahead l.way l.row
