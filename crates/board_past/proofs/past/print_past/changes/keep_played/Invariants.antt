-- Of the rows looked at so far, those that the stone changes are kept.
use Rattle.board_past.proofs.Common.{◌+◌, ◌≤◌, length, vec_capacity, Colour, play, IsMove, KeepRows}
use Rattle.board_past.proofs.past.print_past.changes.keep_played.Given as goal

abbrev pub invariant-loop-row : goal.invariant-loop-row
invariant-loop-row l = record {
  kept : (colour : Colour) → IsMove l.board colour l.point l.cleared → KeepRows l.board (play l.board colour l.point) l.all l.row l.fn.changes.items l.changes.items;
  room : length l.changes.items + l.board.side ≤ vec_capacity l.changes + l.row;
}
