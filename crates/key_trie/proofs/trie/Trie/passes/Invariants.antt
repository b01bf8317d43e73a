use Rattle.key_trie.proofs.Common.{◌≡◌, ◌<◌, ℕ, Bool, length, IsTrieOf, IsOnWay, GoesOn, after_steps, depth_of, child_of}
use Rattle.key_trie.proofs.trie.Trie.passes.Given as goal

abbrev pub invariant-down : goal.invariant-down
invariant-down g l = record {
  node : ℕ;
  side : Bool;
  there_node : node < length l.nodes;
  way : (width : ℕ) (keys : ℕ → ℕ → Bool) → IsTrieOf width (length l.nodes) keys l.nodes
      → IsOnWay (length l.nodes) keys (depth_of l.nodes) (g.K.Key.bits l.key) l.end node side;
  left : l.depth ≡ depth_of l.nodes node;
  named : l.below ≡ child_of l.nodes node side;
  there : l.below < length l.nodes;
  depth : l.depth ≡ (after_steps l.nodes (g.K.Key.bits l.key) l.counter).0;
  below : l.below ≡ (after_steps l.nodes (g.K.Key.bits l.key) l.counter).1;
  passed : (steps : ℕ) → steps < l.counter → GoesOn l.nodes (g.K.Key.bits l.key) l.end steps;
}
