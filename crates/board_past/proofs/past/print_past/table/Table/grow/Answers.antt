use Rattle.board_past.proofs.Common.{◌<◌, ap, arith, capacity_of, Table}
use Rattle.board_past.proofs.past.print_past.table.Table.grow.Goals as goal
use Rattle.board_past.proofs.past.print_past.table.Table.grow.Goals.{After-capacity-2, then-count-capacity+in_ok-make_room, else-count-capacity}

room : (c : After-capacity-2) → c.args.count < capacity_of c.if-count-capacity.self.trie
room c = elim c.if-count-capacity.branch [
  | then-count-capacity+in_ok-make_room w ↦ omega (arith, ap (λ (x : Table). capacity_of x.trie) w.self-is, w.in_ok-make_room.ensures.ok, c.requires.room)
  | else-count-capacity w ↦ omega (arith, ap (λ (x : Table). capacity_of x.trie) w.self-is, w.if-count-capacity.false, c.capacity.ensures)
]

pub returns-in_ok-reserve-clause-trie : goal.returns-in_ok-reserve-clause-trie
returns-in_ok-reserve-clause-trie c = room (goal.at.returns-in_ok-reserve-clause-trie c).After-capacity-2

pub returns-else-count-capacity-2-clause-trie : goal.returns-else-count-capacity-2-clause-trie
returns-else-count-capacity-2-clause-trie c = room (goal.at.returns-else-count-capacity-2-clause-trie c).After-capacity-2
