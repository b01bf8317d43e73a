use Rattle.board_stones.proofs.Common.{◌≡◌, Empty, is_set}
use Rattle.board_stones.proofs.SweepLemmas.{painted}
use Rattle.board_stones.proofs.board.Board.empty_set.Given as goal

abbrev pub invariant-rows : goal.invariant-rows
invariant-rows l = l.self ≡ painted l.initial.self (is_set l.rows) Empty l.row
