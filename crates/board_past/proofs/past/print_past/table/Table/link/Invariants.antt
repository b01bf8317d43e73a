use Rattle.board_past.proofs.Common.{all_of, IsAwakeTable, most_to_link}
use Rattle.board_past.proofs.past.print_past.table.Table.link.Given as goal

abbrev pub invariant-each : goal.invariant-each
invariant-each l = IsAwakeTable (all_of l.past) l.self

abbrev pub decreases-each : goal.decreases-each
decreases-each l = most_to_link l.self
