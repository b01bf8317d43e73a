use Rattle.board_stones.proofs.Common.{rules, not-true}
use Rattle.board_stones.proofs.board.Board.work_settled_out.Goals as goal

pub invariant_of-self : goal.invariant_of-self
invariant_of-self c = (c.self.invariant.0, search (rules, not-true))
