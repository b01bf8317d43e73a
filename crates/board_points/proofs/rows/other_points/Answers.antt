use Rattle.board_points.proofs.Common.{◌∙◌, length, slice_index, arith, rules}
use Rattle.board_points.proofs.ColumnLemmas.{AreOthers, others_of_all}
use Rattle.board_points.proofs.RowLemmas.{written_more, AreRowsOf-others}
use Rattle.board_points.proofs.rows.other_points.Goals as goal

pub loop-row-preserved : goal.loop-row-preserved
loop-row-preserved c =
    let l = c.loop-row in
    let side = length c.args.rows.now in
    written_more (λ r w. AreOthers side (slice_index c.args.rows.now r) w) l.others l.row _ (omega (arith, c.loop-row-test.true, l.auto.others, c.requires.same)) l.invariant
    (others_of_all side c.all_columns-all.result (slice_index c.args.rows.now l.row) c.all_columns-all.ensures (search rules) (search rules))

pub returns : goal.returns
returns c =
    AreRowsOf-others c.args.rows.now c.loop-row.others (c.loop-row.auto.others ∙ c.requires.same)
    (λ r below. c.loop-row.invariant r (omega (arith, below, c.loop-row-test.false)))
