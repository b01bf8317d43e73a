use Rattle.key_trie.proofs.Common.{◌*◌, Agree}
use Rattle.key_trie.proofs.key.first_difference.Given as goal

abbrev pub invariant-words : goal.invariant-words
invariant-words g l = Agree (g.K.Key.bits l.one) (g.K.Key.bits l.other) (64 * l.index)
