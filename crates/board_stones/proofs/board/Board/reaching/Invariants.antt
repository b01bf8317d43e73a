use Rattle.board_stones.proofs.Common.{◌≡◌, ◌⊎◌, ◌+◌, ◌*◌, ◌<◌, Contains, take, length, marked_count, index_of, Finds, nothing_found, cell_at, IsUnderWay}
use Rattle.std.proofs.Common.{◌-◌}
use Rattle.board_stones.proofs.board.Board.reaching.Given as goal

abbrev pub invariant-loop-index : goal.invariant-loop-index
invariant-loop-index l =
    Finds (λ p. (index_of l.self.side p < l.index) × (cell_at l.self p ≡ l.target)) (nothing_found l.self.side) l.search

abbrev pub invariant-loop-point : goal.invariant-loop-point
invariant-loop-point l = record {
  way : IsUnderWay l.self l.target l.search;
  counted : l.steps + length l.search.waiting ≡ l.initial.steps + marked_count l.search.marking;
}

abbrev pub invariant-loop-to : goal.invariant-loop-to
invariant-loop-to l =
    Finds (λ q. Contains (take l.to-index l.to-items) q × ((l.own ≡ l.target) ⊎ (cell_at l.self q ≡ l.own))) l.initial.search l.search

abbrev pub decreases-loop-point : goal.decreases-loop-point
decreases-loop-point l = l.initial.steps + l.self.side * l.self.side - l.steps
