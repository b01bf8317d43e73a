use Rattle.board_points.proofs.Common.{arith}
use Rattle.board_points.proofs.GlanceLemmas.{row_inside, row_free}
use Rattle.board_points.proofs.liberty.row_inside.Goals as goal

pub returns-clause-is : goal.returns-clause-is
returns-clause-is c = λ middle i at.
    row_inside c.args.own.now c.args.others.now middle i c.args.row c.args.off at c.requires.row c.requires.off

pub returns-clause-free : goal.returns-clause-free
returns-clause-free c = λ p at.
    row_free c.args.own.now c.args.others.now c.args.row 2 c.args.row c.args.off (omega arith) c.requires.off p (omega (arith, at))
