-- The answer is only there for speed.
use Rattle.std.proofs.Common.{rules}
use Rattle.judged_lines.proofs.judging.root.board_size.Goals as goal

pub returns : goal.returns
returns c = search rules
