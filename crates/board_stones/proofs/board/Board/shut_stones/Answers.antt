use Rattle.board_stones.proofs.Common.{◌≤◌, arith}
use Rattle.board_stones.proofs.LibertyLemmas.{Grows-first, IsClosed-full, shut_left, rows_of_colour}
use Rattle.board_stones.proofs.board.Board.shut_stones.Goals as goal

pub returns-then-is_none-clause-shut : goal.returns-then-is_none-clause-shut
returns-then-is_none-clause-shut c =
    let own = c.rows_of-own in
    let other = c.rows_of-others in
    let are = rows_of_colour _ _ _ _ c.opponent.ensures other.ensures.are in
    let small : c.args.self.now.side ≤ 52 = omega (arith, c.size.ensures, c.side.ensures.value, c.side.ensures.at_most) in
    let grows = Grows-first c.args.self.now c.args.colour own.result.now other.result.now c.stones_with_liberty.new.found small own.ensures.rows own.ensures.are are c.stones_with_liberty.ensures in
    let closed = IsClosed-full c.args.self.now c.args.colour own.result.now other.result.now c.stones_with_liberty.new.found small own.ensures.rows own.ensures.are are c.stones_with_liberty.ensures c.stones_with_liberty.new.found c.difference.new.left c.difference.ensures grows (c.is_none.ensures.0 c.if-is_none.true) in
    shut_left c.args.self.now c.args.colour own.result.now other.result.now c.stones_with_liberty.new.found small own.ensures.rows own.ensures.are are c.stones_with_liberty.ensures c.stones_with_liberty.new.found c.difference.new.left c.difference.ensures grows closed

pub returns-clause-shut : goal.returns-clause-shut
returns-clause-shut c =
    let own = c.rows_of-own in
    let other = c.rows_of-others in
    let are = rows_of_colour _ _ _ _ c.opponent.ensures other.ensures.are in
    let small : c.args.self.now.side ≤ 52 = omega (arith, c.size.ensures, c.side.ensures.value, c.side.ensures.at_most) in
    shut_left c.args.self.now c.args.colour own.result.now other.result.now c.stones_with_liberty.new.found small own.ensures.rows own.ensures.are are c.stones_with_liberty.ensures c.fill.new.rows c.difference-2.new.left c.difference-2.ensures c.fill.ensures.grows c.fill.ensures.closed
