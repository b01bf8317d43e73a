use Rattle.std.proofs.Common.{rules}
use Rattle.board_past.proofs.past.print_past.table.room_of_both.Goals as goal

-- these are only there for speed
pub returns-clause-prints : goal.returns-clause-prints
returns-clause-prints c = search rules

pub returns-clause-trie : goal.returns-clause-trie
returns-clause-trie c = search rules
