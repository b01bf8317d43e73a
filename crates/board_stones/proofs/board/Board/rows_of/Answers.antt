use Rattle.board_stones.proofs.Common.{sym, ◌∙◌, arith}
use Rattle.board_stones.specs.declared.stones.Cell.TheVariants.{Black as BlackCell, White as WhiteCell}
use Rattle.board_stones.specs.declared.stones.Colour.TheVariants.{Black, White}
use Rattle.board_stones.proofs.LibertyLemmas.{rows_of_colour}
use Rattle.board_stones.proofs.StoneRowsLemmas.{rows_front, black_front, white_front}
use Rattle.board_stones.proofs.board.Board.rows_of.Goals as goal

pub returns-in-Black : goal.returns-in-Black
returns-in-Black c =
    let are = c.self.invariant.0 in
    let front = rows_front c.args.self.now _ c.self.inside.black c.from-side.result BlackCell c.self.view_is (c.from-side.ensures ∙ c.side.ensures.value) (omega (arith, are.few, are.black_rows)) (black_front _ _ _ are) in
    record { are = rows_of_colour c.args.self.now Black c.args.colour _ (sym c.in-Black.is) front.0; rows = front.1 }

pub returns-in-White : goal.returns-in-White
returns-in-White c =
    let are = c.self.invariant.0 in
    let front = rows_front c.args.self.now _ c.self.inside.white c.from-side.result WhiteCell c.self.view_is (c.from-side.ensures ∙ c.side.ensures.value) (omega (arith, are.few, are.white_rows)) (white_front _ _ _ are) in
    record { are = rows_of_colour c.args.self.now White c.args.colour _ (sym c.in-White.is) front.0; rows = front.1 }
