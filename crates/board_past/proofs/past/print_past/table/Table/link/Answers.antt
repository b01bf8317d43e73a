use Rattle.std.proofs.Common.{arith}
use Rattle.board_past.proofs.past.print_past.table.Table.link.Goals as goal

pub returns-clause-all : goal.returns-clause-all
returns-clause-all c = omega (arith, c.each-test.false, c.len.ensures, c.len-in-each.ensures, c.each.invariant.few)
