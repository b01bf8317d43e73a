use Rattle.board_stones.proofs.Common.{◌≡◌, ◌⊎◌, Contains, take, Some, IsOn, stone_of, cell_at, ReachesIfStone}
use Rattle.std.proofs.Common.{IfSome}
use Rattle.board_stones.proofs.board.Board.find_shut_beside.Given as goal

abbrev pub invariant-loop-at : goal.invariant-loop-at
invariant-loop-at l = record {
  same : l.shut ≡ l.fn.shut;
  stone : IfSome l.doubted (λ at. IsOn l.self.side at × (cell_at l.self at ≡ stone_of l.colour));
  beside : (q : _) → Contains (take l.at-index l.at-items) q → IsOn l.self.side q → (l.doubted ≡ Some q) ⊎ ReachesIfStone l.self l.colour q;
}
