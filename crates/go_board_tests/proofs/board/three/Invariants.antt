use Rattle.std.proofs.Common.{◌≡◌}
use Rattle.go_board_tests.proofs.board.three.Given as goal

abbrev pub invariant-loop-index : goal.invariant-loop-index
invariant-loop-index g l = l.board.side ≡ 3
