use Rattle.board_stones.proofs.board.Board.copy.Goals as goal

pub invariant_of-result : goal.invariant_of-result
invariant_of-result c = c.self.invariant
