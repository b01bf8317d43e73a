use Rattle.std.proofs.Common.{rules}
use Rattle.key_trie.proofs.trie.Trie.new.Goals as goal

-- only there for speed
pub returns-clause-room : goal.returns-clause-room
returns-clause-room c = search rules
