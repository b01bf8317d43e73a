use Rattle.board_points.proofs.Common.{◌≡◌, refl, arith, bit_and, bit_not, w64, slice_index}
use Rattle.board_points.proofs.RowLemmas.{written_more}
use Rattle.board_points.proofs.rows.difference.Goals as goal

pub loop-row-preserved : goal.loop-row-preserved
loop-row-preserved c =
    let l = c.loop-row in
    written_more (λ r word. word ≡ bit_and (slice_index c.args.rows.now r) (bit_not w64 (slice_index c.args.others.now r))) l.left l.row _
    (omega (arith, c.loop-row-test.true, l.auto.left, c.requires.left)) l.invariant refl
