use Rattle.std.proofs.Common.{rules}
use Rattle.board_past.proofs.past.print_past.key.ColouringKeyKey.word.Goals as goal

-- only there for speed
pub returns-in-2 : goal.returns-in-2
returns-in-2 c = search rules
