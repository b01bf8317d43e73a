use Rattle.board_stones.proofs.Common.{◌≡◌, take, fold, with_rectangle}
use Rattle.board_stones.proofs.board.Board.colour_rectangles.Given as goal

abbrev pub invariant-loop-op : goal.invariant-loop-op
invariant-loop-op l = (l.self.side ≡ l.initial.self.side) × (l.self ≡ fold with_rectangle l.initial.self (take l.op-index l.ops))
