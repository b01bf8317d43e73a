use Rattle.board_past.proofs.Common.{◌≡◌, ◌+◌, ◌<◌, ◌≤◌, List, length, vec_capacity, Held, HasHashes}
use Rattle.board_past.proofs.past.print_past.hashes.keep_hash.Given as goal

abbrev pub invariant-each : goal.invariant-each
invariant-each l = record {
  count : length l.kept.items ≡ l.counter;
  room : l.number + 1 ≤ vec_capacity l.kept;
  hashes : (held : List Held) → l.number < length held → HasHashes held l.initial.kept.items → HasHashes held l.kept.items;
}
