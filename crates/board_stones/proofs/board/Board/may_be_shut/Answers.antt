use Rattle.board_stones.proofs.Common.{not-false}
use Rattle.board_stones.proofs.LibertyLemmas.{rows_of_colour, Reaches-liberty, IsStone-rows}
use Rattle.board_stones.proofs.board.Board.may_be_shut.Goals as goal

pub lives_in_row-requires : goal.lives_in_row-requires
lives_in_row-requires c =
    let known = c.has_stone.ensures.0 c.if-has_stone.true in
    let are = rows_of_colour _ _ _ _ c.opponent.ensures c.rows_of-then-has_stone.ensures.are in
    record { stone = IsStone-rows _ _ _ _ _ c.rows_of.ensures.rows c.rows_of.ensures.are are c.has_all_cells.ensures.few c.rows_of-then-has_stone.ensures.rows known.0 known.1 }

pub returns-then-has_stone-clause-lives : goal.returns-then-has_stone-clause-lives
returns-then-has_stone-clause-lives c = λ lives on stone.
    let are = rows_of_colour _ _ _ _ c.opponent.ensures c.rows_of-then-has_stone.ensures.are in
    let w = c.lives_in_row.ensures (not-false c.lives_in_row.result lives) in
    Reaches-liberty _ _ _ _ _ c.rows_of.ensures.rows c.rows_of.ensures.are are on stone w.0 w.1
