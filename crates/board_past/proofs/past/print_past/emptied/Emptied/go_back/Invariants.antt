use Rattle.board_past.proofs.Common.{◌≡◌, ◌+◌, ◌∷◌, List, length, Held, HasRowsBelow, IsEmptied, IsLogged}
use Rattle.board_past.proofs.past.print_past.emptied.Emptied.go_back.Given as goal

abbrev pub invariant-each : goal.invariant-each
invariant-each l = record {
  count : length l.self.rows ≡ 52;
  inside : HasRowsBelow l.self.log.items;
  logged : (newest : Held) (older : List Held) → IsEmptied (newest ∷ older) l.initial.self → l.number ≡ length older
      → IsLogged older (length older + 1) l.self;
}

abbrev pub decreases-each : goal.decreases-each
decreases-each l = length l.self.log.items
