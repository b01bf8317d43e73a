use Rattle.key_trie.proofs.Common.{◌≡◌, ◌+◌, ◌++◌, ◌∷◌, [], List, ℕ, Bool, true, false, if◌then◌else◌, not, refl, length, length-append, ap, sym, subst, ◌∙◌, arith, rules, length-set, Node, IsTrieOf, named, node_at, child_of, with_child, with_named}
use Rattle.key_trie.proofs.InsertLemmas.{trie_parted}
use Rattle.key_trie.proofs.trie.Trie.insert.Goals as goal
use Rattle.key_trie.proofs.trie.Trie.insert.Goals.{then-bit, else-bit, then-bit-2, else-bit-2}

-- the node names its own item on the side of its bit
named-sides : (node : Node) (bit : Bool) {own rest : ℕ} → node.off ≡ (if bit then rest else own) → node.on ≡ (if bit then own else rest)
    → (named node bit ≡ own) × (named node (not bit) ≡ rest)
named-sides node true off on = (on, off)
named-sides node false off on = (off, on)

pub returns-clause-more : goal.returns-clause-more
returns-clause-more c =
    let nodes = c.args.self.now.nodes.items in
    let slot = c.args.slot in
    omega (arith, ap length c.push_reserved.ensures.items, length-append {A = Node}, ap length c.name.ensures.named, length-set nodes slot.node (with_child (node_at nodes slot.node) slot.side c.len-number.result))

pub returns-clause-trie : goal.returns-clause-trie
returns-clause-trie c = λ width keys trie within opening bit.
    let nodes = c.args.self.now.nodes.items in
    let slot = c.args.slot in
    let node : Node = record { depth = c.args.position + 1; up_side = slot.side; up = slot.node; off = c.if-bit.push_reserved; on = c.if-bit-2.push_reserved } in
    let number : c.len-number.result ≡ length nodes = search rules in
    let below : c.child-below.result ≡ child_of nodes slot.node slot.side = search rules in
    let named_so : c.name.new.nodes.items ≡ with_named nodes slot.node slot.side (length nodes) =
    c.name.ensures.named ∙ ap (λ n. with_named nodes slot.node slot.side n) number in
    let made : c.push_reserved.new.self.items ≡ with_named nodes slot.node slot.side (length nodes) ++ node ∷ [] =
    c.push_reserved.ensures.items ∙ ap (λ (xs : List Node). xs ++ node ∷ []) named_so in
    let more : length c.push_reserved.new.self.items ≡ length nodes + 1 = returns-clause-more c in
    let off : c.if-bit.push_reserved ≡ (if c.args.bit then c.child-below.result else c.len-number.result) =
    elim c.if-bit.branch [ then-bit w ↦ rw w.if-bit.true w.push_reserved-is | else-bit w ↦ rw w.if-bit.false w.push_reserved-is ] in
    let on : c.if-bit-2.push_reserved ≡ (if c.args.bit then c.len-number.result else c.child-below.result) =
    elim c.if-bit-2.branch [ then-bit-2 w ↦ rw w.if-bit-2.true w.push_reserved-is | else-bit-2 w ↦ rw w.if-bit-2.false w.push_reserved-is ] in
    let sides = named-sides node c.args.bit off on in
    subst (λ m. IsTrieOf width m keys c.push_reserved.new.self.items) (sym more)
    (subst (λ (xs : List Node). IsTrieOf width (length nodes + 1) keys xs) (sym made)
    (trie_parted keys c.args.self.now trie (omega (arith, opening.there.there)) node opening within
    (record {
      depth = refl;
      up = refl;
      up_side = refl;
      own = ap (λ (t : Bool). named node t) bit ∙ sides.0 ∙ number;
      rest = ap (λ (t : Bool). named node (not t)) bit ∙ sides.1 ∙ below;
    })))
