use Rattle.board_points.proofs.Common.{sym, ◌∙◌, arith, and_parts}
use Rattle.board_points.proofs.WordLemmas.{has_bit-and, has_bit-without}
use Rattle.board_points.proofs.columns.columns_left.Goals as goal

pub returns : goal.returns
returns c = record {
  within = λ col. has_bit-without c.args.all c.args.word col (omega (arith, c.ranges.word.fits));
  off = λ col is. (and_parts _ _ (sym (has_bit-and _ _ col) ∙ is)).0;
}
