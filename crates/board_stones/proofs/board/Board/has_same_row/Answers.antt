use Rattle.board_stones.proofs.Common.{rules}
use Rattle.std.proofs.Common.{eqb-true}
use Rattle.board_stones.proofs.GridLemmas.{same_stones}
use Rattle.board_stones.proofs.board.Board.has_same_row.Goals as goal

pub returns-then-columns_of : goal.returns-then-columns_of
returns-then-columns_of c = search (rules, same_stones)

pub returns-else-columns_of : goal.returns-else-columns_of
returns-else-columns_of c = λ is. absurd (c.if-columns_of.false (eqb-true _ _ is))
