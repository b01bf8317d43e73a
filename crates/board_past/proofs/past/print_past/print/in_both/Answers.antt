use Rattle.std.proofs.Common.{arith}
use Rattle.board_past.proofs.past.print_past.print.in_both.Goals as goal

pub returns : goal.returns
returns c = omega arith
