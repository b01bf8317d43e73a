use Rattle.std.proofs.Common.{rules}
use Rattle.board_past.proofs.past.print_past.colourings.make_room.Goals as goal

-- only there for speed
pub returns-clause-next : goal.returns-clause-next
returns-clause-next c = search rules
