use Rattle.board_points.proofs.Common.{arith, common_steps}
use Rattle.board_points.proofs.GrowLemmas.{row_below}
use Rattle.board_points.proofs.GlanceLemmas.{row_outside}
use Rattle.board_points.proofs.liberty.row_at.Goals as goal

pub returns-clause-is : goal.returns-clause-is
returns-clause-is c = row_outside c.args.own.now c.args.others.now c.args.middle c.args.i (λ p there is. grind (arith, common_steps, row_below))
