use Rattle.key_trie.proofs.Common.{◌≡◌, ◌+◌, ◌∷◌, [], List, length, length-append, ap, sym, subst, ◌∙◌, rules, Node, IsTrieOf}
use Rattle.key_trie.proofs.InsertLemmas.{trie_repeated}
use Rattle.key_trie.proofs.trie.Trie.insert_equal.Goals as goal

pub returns-clause-trie : goal.returns-clause-trie
returns-clause-trie c = λ width keys item trie there same.
    let nodes = c.args.self.now.nodes.items in
    let node = c.lone_node in
    let number : c.len-number.result ≡ length nodes = search rules in
    let more : length c.push_reserved.new.self.items ≡ length nodes + 1 = ap (λ (xs : List Node). length xs) c.push_reserved.ensures.items ∙ length-append nodes (node.result ∷ []) in
    subst (λ m. IsTrieOf width m keys c.push_reserved.new.self.items) (sym more)
    (subst (λ (xs : List Node). IsTrieOf width (length nodes + 1) keys xs) (sym c.push_reserved.ensures.items)
    (trie_repeated keys c.args.self.now trie c.requires.some node.result there same node.ensures.depth (node.ensures.up ∙ number)))
