use Rattle.board_stones.proofs.Common.{◌≡◌, is_in}
use Rattle.board_stones.proofs.SweepLemmas.{painted}
use Rattle.board_stones.proofs.board.Board.colour_rectangle.Given as goal

abbrev pub invariant-rows : goal.invariant-rows
invariant-rows l = l.self ≡ painted l.initial.self (is_in l.op.area) l.op.cell l.row
