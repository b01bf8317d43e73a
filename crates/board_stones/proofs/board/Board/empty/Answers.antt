use Rattle.board_stones.proofs.Common.{◌∙◌, ap, arith, has_unreaching}
use Rattle.board_stones.proofs.StoneRowsLemmas.{AreStones-none}
use Rattle.board_stones.proofs.SettledLemmas.{settled-empty_grid}
use Rattle.board_stones.proofs.board.Board.empty.Goals as goal

pub invariant_of-result : goal.invariant_of-result
invariant_of-result c =
    let side = c.args.size in
    let none = AreStones-none side c.no_rows.result c.no_rows-2.result (omega (arith, c.side.ensures.value, c.side.ensures.at_most)) c.no_rows.ensures c.no_rows-2.ensures in
    (none.0, λ _. ap has_unreaching none.1 ∙ settled-empty_grid side)

pub returns : goal.returns
returns c =
    (AreStones-none c.args.size c.no_rows.result c.no_rows-2.result (omega (arith, c.side.ensures.value, c.side.ensures.at_most)) c.no_rows.ensures c.no_rows-2.ensures).1
