use Rattle.std.proofs.Common.{◌≡◌, length, vec_capacity}
use Rattle.board_past.proofs.past.print_past.table.Table.wake.Given as goal

abbrev pub invariant-each : goal.invariant-each
invariant-each l = record {
  trie : l.self.trie ≡ l.initial.self.trie;
  hashes : l.self.hashes ≡ l.initial.self.hashes;
  room : vec_capacity l.self.prints ≡ vec_capacity l.initial.self.prints;
  count : length l.self.prints.items ≡ l.counter;
}
