use Rattle.key_trie.proofs.Common.{List, length, sym, subst, rules, Node, IsTrieOf}
use Rattle.key_trie.proofs.TrieLemmas.{trie_back}
use Rattle.key_trie.proofs.trie.Trie.take_back.Goals as goal

pub returns-clause-back : goal.returns-clause-back
returns-clause-back c = search rules

pub returns-clause-trie : goal.returns-clause-trie
returns-clause-trie c = λ width keys trie.
    subst (λ (xs : List Node). IsTrieOf width (length xs) keys xs) (sym (returns-clause-back c)) (trie_back width keys c.args.self.now.nodes.items c.requires.some trie)
