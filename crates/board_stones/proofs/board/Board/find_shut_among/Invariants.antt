use Rattle.board_stones.proofs.Common.{Contains, take, IsOn, AddsShut, AreKnownAlive, IsClearedOrReaches}
use Rattle.board_stones.proofs.board.Board.find_shut_among.Given as goal

abbrev pub invariant-loop-at : goal.invariant-loop-at
invariant-loop-at l = record {
  adds : AddsShut l.self l.colour l.fn.shut l.shut l.some;
  alive : AreKnownAlive l.self l.colour l.alive;
  beside : (q : _) → Contains (take l.at-index l.at-items) q → IsOn l.self.side q → IsClearedOrReaches l.self l.colour l.shut q;
}
