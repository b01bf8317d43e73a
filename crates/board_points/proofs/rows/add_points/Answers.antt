use Rattle.board_points.proofs.Common.{arith}
use Rattle.board_points.proofs.RowLemmas.{added_all, added_next}
use Rattle.board_points.proofs.rows.add_points.Goals as goal

pub returns-clause-both : goal.returns-clause-both
returns-clause-both c =
    let l = c.loop-row in
    added_all c.args.all.now c.args.rows.now l.all
    (record { added = λ r below. l.invariant.added r (omega (arith, below, c.loop-row-test.false)); same = λ r above. l.invariant.same r (omega (arith, above, l.auto.row-end)) })

pub loop-row-preserved : goal.loop-row-preserved
loop-row-preserved c =
    let l = c.loop-row in
    added_next c.args.all.now c.args.rows.now l.all l.row (omega (arith, c.loop-row-test.true, l.auto.all, c.requires)) l.invariant
