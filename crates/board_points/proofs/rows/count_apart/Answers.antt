use Rattle.board_points.proofs.Common.{◌<◌, ◌^◌, length, get_or, refl, arith, rules}
use Rattle.board_points.proofs.CountLemmas.{counted_more, counted_all}
use Rattle.board_points.proofs.rows.count_apart.Goals as goal

pub loop-row-preserved : goal.loop-row-preserved
loop-row-preserved c =
    let rows = c.args.rows.now in
    let others = c.args.others.now in
    let row = c.loop-row.row in
    let low : get_or rows row 0 < 2 ^ 64 = search rules in
    let low_other : get_or others row 0 < 2 ^ 64 = search rules in
    counted_more (length rows) rows others row (get_or rows row 0) (get_or others row 0) c.loop-row.count c.loop-row.invariant c.requires.few
    (omega (arith, c.loop-row-test.true)) refl refl low low_other c.requires.on_board

pub returns : goal.returns
returns c =
    counted_all (length c.args.rows.now) c.args.rows.now c.args.others.now c.loop-row.row c.loop-row.count c.loop-row.invariant
    (omega (arith, c.loop-row-test.false, c.loop-row.auto.row-end))
