-- What the proofs of this crate import together: words of specs, types, and lemmas of the standard library.
pub use Rattle.std.proofs.lemmas.Bool.{cases_eq, cases_lt, cases_order, false≢true}
pub use Rattle.std.proofs.lemmas.List.{get_or_append_left, get_or_default, nil_from_length, set-get_or}
pub use Rattle.std.proofs.Common.{[], ap, arith, below_more, bit_xor, Bool, eq-eqb, false, get_or-set_other, get_or-set_same, if◌then◌else◌, inl, inr, length, length-append, length-set, List, ne_eqb, not, refl, rules, set-set, subst, suc, sym, take, true, true≢false, w64, zero, ℕ, ◌*◌, ◌++◌, ◌+◌, ◌-◌, ◌<◌, ◌==◌, ◌^◌, ◌∙◌, ◌∷◌, ◌≡◌, ◌≢◌, ◌≤◌, ◌⊎◌}
pub use Rattle.key_trie.specs.declared.trie.Node.{Node}
pub use Rattle.key_trie.specs.declared.trie.Slot.{Slot}
pub use Rattle.key_trie.specs.declared.trie.Trie.{Trie}
pub use Rattle.key_trie.specs.Key.{Agree}
pub use Rattle.key_trie.specs.Trie.{after_steps, child_at, child_of, depth_of, displaced, GoesOn, IsChild, IsNearest, IsOnWay, IsOpening, IsParting, IsReach, IsSlot, IsTree, IsTrie, IsTrieOf, IsUnder, IsWayTo, item_count, named, no_node, node_at, nodes_of, with_child, with_named, without_newest}
pub use Rattle.std.specs.Int.{bit_at, trailing_zeros}
pub use Rattle.std.proofs.lemmas.Nat.Bits.{bit_at-lt, bit_at-trailing_zeros, bit_at-zero, bit_at_xor}
