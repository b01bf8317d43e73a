-- None of the calls that were looked at changed the board.
use Rattle.go_board.proofs.Common.{◌≡◌, ◌≤◌, ◌<◌, ℕ, false, length, get_or, Earlier, grew}
use Rattle.go_board.proofs.referee.Referee.left_board_since.Given as goal

abbrev pub invariant-calls : goal.invariant-calls
invariant-calls g l = record {
  within : l.count ≤ length l.self-inside.earlier.items;
  still : (d : Earlier) → (i : ℕ) → l.count ≤ i → i < length l.self-inside.earlier.items → grew (get_or l.self-inside.earlier.items i d).call ≡ false;
}

abbrev pub decreases-calls : goal.decreases-calls
decreases-calls g l = l.count
