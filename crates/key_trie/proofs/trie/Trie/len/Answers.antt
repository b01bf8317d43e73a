use Rattle.std.proofs.Common.{rules}
use Rattle.key_trie.proofs.trie.Trie.len.Goals as goal

-- only there for speed
pub returns : goal.returns
returns c = search rules
