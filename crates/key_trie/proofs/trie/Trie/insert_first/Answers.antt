use Rattle.key_trie.proofs.Common.{◌≡◌, ◌++◌, ◌∷◌, [], List, length, ap, sym, subst, ◌∙◌, nil_from_length, Node, IsTrieOf}
use Rattle.key_trie.proofs.InsertLemmas.{trie_first}
use Rattle.key_trie.proofs.trie.Trie.insert_first.Goals as goal

pub returns-clause-trie : goal.returns-clause-trie
returns-clause-trie c = λ width keys.
    let node = c.lone_node in
    let made : c.push_reserved.new.self.items ≡ node.result ∷ [] = c.push_reserved.ensures.items ∙ ap (λ (xs : List Node). xs ++ node.result ∷ []) (nil_from_length c.args.self.now.nodes.items c.requires.none) in
    subst (λ (xs : List Node). IsTrieOf width (length xs) keys xs) (sym made) (trie_first width keys node.result node.ensures.depth node.ensures.up node.ensures.off)
