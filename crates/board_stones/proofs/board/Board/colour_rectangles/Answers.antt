use Rattle.board_stones.proofs.Common.{rules}
use Rattle.board_stones.proofs.RectangleLemmas.{rectangles_more}
use Rattle.board_stones.proofs.board.Board.colour_rectangles.Goals as goal

pub loop-op-preserved : goal.loop-op-preserved
loop-op-preserved c = rectangles_more _ _ _ _ _ _ c.loop-op-test.true c.colour_rectangle.ensures c.loop-op.invariant.0 c.loop-op.invariant.1

pub set_settled-requires : goal.set_settled-requires
set_settled-requires c = search rules
