use Rattle.std.proofs.Common.{rules}
use Rattle.key_trie.proofs.trie.Trie.make_room.Goals as goal

-- written out though the prover needs no help: it then refuses a wrong body sooner
pub returns-clause-ok : goal.returns-clause-ok
returns-clause-ok c = search rules
