use Rattle.std.proofs.Common.{rules}
use Rattle.key_trie.proofs.trie.Trie.clear.Goals as goal

-- both are written out though the prover needs no help: it then refuses a wrong body sooner
pub returns-clause-trie : goal.returns-clause-trie
returns-clause-trie c = search rules

pub returns-clause-none : goal.returns-clause-none
returns-clause-none c = search rules
