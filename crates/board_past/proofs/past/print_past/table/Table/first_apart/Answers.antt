use Rattle.std.proofs.Common.{rules}
use Rattle.board_past.proofs.past.print_past.table.Table.first_apart.Goals as goal

pub returns-clause-apart : goal.returns-clause-apart
returns-clause-apart c = search rules
