-- The row has yet to give `given` to the next one.
use Rattle.board_points.proofs.Common.{◌≡◌, ◌<◌, List, ℕ, ◌&&◌, not, length, slice_index, has_bit, IsWithin, IsPart, HaveMore, IsFilledBut, lacking}
use Rattle.board_points.proofs.fill.give.Given as goal

abbrev pub invariant-rows : goal.invariant-rows
invariant-rows l = record {
  within : IsWithin l.rows l.region;
  row : l.row < length l.rows;
  given : IsPart (has_bit l.given) (has_bit (slice_index l.rows l.row));
  lacks : (col : ℕ) → has_bit l.lacks col ≡ (has_bit (slice_index l.region l.row) col && not (has_bit (slice_index l.rows l.row) col));
  filled : (start : List ℕ) → (ahead : ℕ) → IsFilledBut l.region start l.fn.rows l.direction ahead l.back l.first (slice_index l.fn.rows l.first)
      → IsFilledBut l.region start l.rows l.direction ahead l.flags l.row l.given;
  more : HaveMore l.fn.rows l.rows l.back l.flags;
}

abbrev pub decreases-rows : goal.decreases-rows
decreases-rows l = lacking l.rows
