use Rattle.key_trie.proofs.Common.{◌≡◌, suc, ◌+◌, ◌-◌, ◌<◌, ◌≤◌, ◌∙◌, ℕ, Bool, false, List, length, arith, rules, sym, ap, subst, inl, inr, cases_eq, Node, IsTrieOf, IsOnWay, GoesOn, after_steps, depth_of, child_of}
use Rattle.std.proofs.lemmas.Grind.{common_steps}
use Rattle.key_trie.proofs.TrieLemmas.{trie_tree, way_begins, way_goes_on, way_names}
use Rattle.key_trie.proofs.trie.Trie.passes.Goals as goal

pub down-init : goal.down-init
down-init g c =
    let nodes = c.as_slice-nodes.result.now in
    let is = subst (λ (xs : List Node). (width : ℕ) × (keys : ℕ → ℕ → Bool) × IsTrieOf width (length xs) keys xs) (sym c.as_slice-nodes.ensures.value) c.requires.trie in
    let some : 0 < length nodes = subst (λ (xs : List Node). 0 < length xs) (sym c.as_slice-nodes.ensures.value) c.requires.some in
    let tree = trie_tree _ is.1 _ is.2 some in
    record {
      node = 0;
      side = false;
      there_node = some;
      way = λ width keys trie. way_begins (trie_tree _ keys _ trie some) (g.K.Key.bits c.args.key.now) c.args.end some;
      left = sym (tree.root some);
      named = search rules;
      there = subst (λ x. x < length nodes) (sym c.child-below.ensures) (way_names tree (way_begins tree (g.K.Key.bits c.args.key.now) 0 some));
      depth = search rules;
      below = search rules;
      passed = λ steps low. absurd (omega (arith, low));
    }

pub down-preserved : goal.down-preserved
down-preserved g c =
    let nodes = c.as_slice-nodes.result.now in
    let key = g.K.Key.bits c.args.key.now in
    let old = c.down.invariant in
    let is = subst (λ (xs : List Node). (width : ℕ) × (keys : ℕ → ℕ → Bool) × IsTrieOf width (length xs) keys xs) (sym c.as_slice-nodes.ensures.value) c.requires.trie in
    let deeper : c.from-deeper.result ≡ depth_of nodes c.down.below = search rules in
    let next : (width : ℕ) (keys : ℕ → ℕ → Bool) → IsTrieOf width (length nodes) keys nodes
    → IsOnWay (length nodes) keys (depth_of nodes) key c.args.end c.down.below c.bit.result = λ width keys trie.
    way_goes_on (trie_tree _ keys _ trie (omega (arith, old.there_node))) c.down.below c.bit.result (old.way width keys trie) old.named
    (omega (arith, c.if-deeper-depth.false, old.left, deeper)) (omega (arith, c.if-deeper-end.false, deeper))
    (c.bit.ensures ∙ ap (λ n. key (n - 1)) deeper) in
    let one : suc c.down.counter ≡ c.down.counter + 1 = omega arith in
    let at : c.down.below ≡ (after_steps nodes key c.down.counter).1 = old.below in
    record {
      node = c.down.below;
      side = c.bit.result;
      there_node = old.there;
      way = next;
      left = deeper;
      named = c.child-below-in-down.ensures;
      there = subst (λ x. x < length nodes) (sym c.child-below-in-down.ensures) (way_names (trie_tree _ is.1 _ is.2 (omega (arith, old.there_node))) (next is.0 is.1 is.2));
      depth = subst (λ n. c.from-deeper.result ≡ (after_steps nodes key n).0) one (deeper ∙ ap (depth_of nodes) at);
      below = subst (λ n. c.child-below-in-down.result ≡ (after_steps nodes key n).1) one
          (c.child-below-in-down.ensures
          ∙ ap (λ bit. child_of nodes c.down.below bit) (c.bit.ensures ∙ ap (λ n. key (n - 1)) deeper)
          ∙ ap (λ n. child_of nodes n (key (depth_of nodes n - 1))) at);
      passed = λ steps low. elim (cases_eq steps c.down.counter) [
        | inr other ↦ old.passed steps (omega (arith, low, other))
        | inl same ↦ subst (λ n. GoesOn nodes key c.args.end n) (sym same) (
          subst (λ n. n < depth_of nodes (after_steps nodes key c.down.counter).1) old.depth
              (subst (λ n. c.down.depth < depth_of nodes n) at (omega (arith, c.if-deeper-depth.false, deeper))),
          subst (λ n. depth_of nodes n ≤ c.args.end) at (omega (arith, c.if-deeper-end.false, deeper)),
        )
      ];
    }

-- only there for speed
pub returns-then-deeper-depth : goal.returns-then-deeper-depth
returns-then-deeper-depth g c = grind (arith, common_steps)
