-- Of the rows looked at so far, those that differ are kept.
use Rattle.board_past.proofs.Common.{◌+◌, ◌≤◌, length, vec_capacity, KeepRows}
use Rattle.board_past.proofs.past.print_past.changes.keep_rows.Given as goal

abbrev pub invariant-loop-row : goal.invariant-loop-row
invariant-loop-row l = record {
  kept : KeepRows l.old l.new l.all l.row l.fn.changes.items l.changes.items;
  room : length l.changes.items + l.old.side ≤ vec_capacity l.changes + l.row;
}
