use Rattle.board_points.proofs.Common.{not-true, not-false}
use Rattle.board_points.proofs.quick.group.fill_if_shut.Goals as goal

pub returns : goal.returns
returns c = record {
  shut = λ is. c.has_liberty.ensures.shut (not-true _ is);
  lives = λ no. c.has_liberty.ensures.lives (not-false _ no);
  all = c.has_liberty.ensures.all;
}
