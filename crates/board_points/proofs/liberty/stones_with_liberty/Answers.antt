use Rattle.board_points.proofs.Common.{refl, arith}
use Rattle.board_points.proofs.GrowLemmas.{row_below}
use Rattle.board_points.proofs.RowLemmas.{written_more}
use Rattle.board_points.proofs.LinkedLemmas.{HaveLibertyInRow, HaveLibertyInRow-row}
use Rattle.board_points.proofs.liberty.stones_with_liberty.Goals as goal

pub loop-row-preserved : goal.loop-row-preserved
loop-row-preserved c =
    let l = c.loop-row in
    let near = c.columns_with_liberty in
    written_more (HaveLibertyInRow c.args.own.now c.args.others.now) l.found l.row _ (omega (arith, c.loop-row-test.true, l.auto.found, c.requires.found)) l.invariant
    (HaveLibertyInRow-row c.args.own.now c.args.others.now l.row near.result near.ensures.from (λ col low free. near.ensures.to (record { col = col; row = l.row }) refl low free))

pub returns : goal.returns
returns c = record {
  from = λ stone is. (c.loop-row.invariant stone.row (omega (arith, row_below _ stone is, c.loop-row.auto.found, c.requires.found, c.loop-row-test.false))).from stone.col is;
  to = λ stone low is. (c.loop-row.invariant stone.row (omega (arith, row_below _ stone is, c.loop-row-test.false))).to stone.col low is;
}
