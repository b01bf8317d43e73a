use Rattle.std.proofs.Common.{rules}
use Rattle.key_trie.proofs.trie.child.Goals as goal

-- these are only there for speed
pub returns-then-slot : goal.returns-then-slot
returns-then-slot c = search rules

pub returns-else-slot : goal.returns-else-slot
returns-else-slot c = search rules
