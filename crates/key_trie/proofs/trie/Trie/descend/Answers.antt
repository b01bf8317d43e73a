use Rattle.key_trie.proofs.Common.{◌-◌, ◌<◌, ◌∙◌, ℕ, Bool, List, length, arith, rules, sym, ap, subst, Node, IsTrieOf, IsOnWay, depth_of}
use Rattle.key_trie.proofs.TrieLemmas.{trie_tree, way_begins, way_goes_on, way_names}
use Rattle.key_trie.proofs.trie.Trie.descend.Given.{Over}
use Rattle.key_trie.proofs.trie.Trie.descend.Goals as goal
use Rattle.key_trie.proofs.trie.Trie.descend.Goals.{After-as_slice-nodes, After-child-below-in-down}

-- the slice is a trie
module _ (g : Over) (c : After-as_slice-nodes g) where
  is_trie : (width : ℕ) × (keys : ℕ → ℕ → Bool) × IsTrieOf width (length c.as_slice-nodes.result.now) keys c.as_slice-nodes.result.now
  is_trie = subst (λ (xs : List Node). (width : ℕ) × (keys : ℕ → ℕ → Bool) × IsTrieOf width (length xs) keys xs) (sym c.as_slice-nodes.ensures.value) c.requires.trie

-- what the next slot names
module _ (g : Over) (c : After-child-below-in-down g) where
  next : (width : ℕ) (keys : ℕ → ℕ → Bool) → IsTrieOf width (length c.as_slice-nodes.result.now) keys c.as_slice-nodes.result.now
      → IsOnWay (length c.as_slice-nodes.result.now) keys (depth_of c.as_slice-nodes.result.now) (g.K.Key.bits c.args.key.now) c.args.end c.down.below c.bit.result
  next width keys trie =
      let old = c.down.invariant in
      way_goes_on (trie_tree _ keys _ trie (omega (arith, old.node))) c.down.below c.bit.result (old.way width keys trie) old.below (omega (arith, c.down-test.true, old.depth, old.deeper)) (omega (arith, c.if-deeper-end.true, old.deeper))
      (c.bit.ensures ∙ ap (λ n. g.K.Key.bits c.args.key.now (n - 1)) old.deeper)

  next_there : (is : (width : ℕ) × (keys : ℕ → ℕ → Bool) × IsTrieOf width (length c.as_slice-nodes.result.now) keys c.as_slice-nodes.result.now) → c.child-below-in-down.result < length c.as_slice-nodes.result.now
  next_there (width, keys, trie) =
      subst (λ x. x < length c.as_slice-nodes.result.now) (sym c.child-below-in-down.ensures) (way_names (trie_tree _ keys _ trie (omega (arith, c.down.invariant.node))) (next width keys trie))

pub down-preserved : goal.down-preserved
down-preserved g c =
    let w = goal.at.down-preserved g c in
    record {
      node = c.down.invariant.there;
      way = next g w.After-child-below-in-down;
      depth = c.down.invariant.deeper;
      below = c.child-below-in-down.ensures;
      there = next_there g w.After-child-below-in-down (is_trie g w.After-as_slice-nodes);
      deeper = search rules;
    }

pub bounds-nodes-below-in-down : goal.bounds-nodes-below-in-down
bounds-nodes-below-in-down g c =
    let w = goal.at.bounds-nodes-below-in-down g c in
    next_there g w.After-child-below-in-down (is_trie g w.After-as_slice-nodes)

pub down-init : goal.down-init
down-init g c = grind (arith, trie_tree, way_begins, way_names)

-- only there for speed
pub returns-else-deeper-end-clause-way : goal.returns-else-deeper-end-clause-way
returns-else-deeper-end-clause-way g c = search rules
