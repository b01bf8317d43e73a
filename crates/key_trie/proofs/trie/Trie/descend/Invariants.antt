use Rattle.key_trie.proofs.Common.{◌≡◌, ◌-◌, ◌<◌, ℕ, Bool, length, IsTrieOf, IsOnWay, depth_of, child_of}
use Rattle.key_trie.proofs.trie.Trie.descend.Given as goal

abbrev pub invariant-down : goal.invariant-down
invariant-down g l = record {
  node : l.slot.node < length l.nodes;
  way : (width : ℕ) (keys : ℕ → ℕ → Bool) → IsTrieOf width (length l.nodes) keys l.nodes
      → IsOnWay (length l.nodes) keys (depth_of l.nodes) (g.K.Key.bits l.key) l.end l.slot.node l.slot.side;
  depth : l.depth ≡ depth_of l.nodes l.slot.node;
  below : l.below ≡ child_of l.nodes l.slot.node l.slot.side;
  there : l.below < length l.nodes;
  deeper : l.deeper ≡ depth_of l.nodes l.below;
}

abbrev pub decreases-down : goal.decreases-down
decreases-down g l = l.end - l.depth
