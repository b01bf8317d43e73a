-- The search for the leaf with a place.
use Rattle.tree_lines.proofs.Common.{◌≡◌, ◌≢◌, ℕ, ◌+◌, ◌-◌, ◌<◌, Some, length, option_map, ap, inl, inr, arith, cases_lt, cases_eq, OrderedNode, place_at, IsLeaf, PlacesRise, sequence_starts, sequence_end, Games, node_count, IsFirstFrom}
use Rattle.tree_lines.proofs.SequenceStarts.{ordered_there, never_empty, first_rises, first_within, in_sequence, leaf_last}
use Rattle.tree_lines.proofs.Seeking.{place_within}

module _ (c : Games) where
  -- the last nodes of sequences rise
  pub lasts_rise : (j k : ℕ) → j < k → k < length (sequence_starts c) → sequence_end c j - 1 < sequence_end c k - 1
  lasts_rise j k lt there = omega (arith, never_empty c j (omega arith), first_rises c (j + 1) (k + 1) (omega arith) (omega arith))

  placed : (i : ℕ) → i < node_count c → (p : ℕ) × (place_at c i ≡ Some p)
  placed i lt = let f = ordered_there c i lt in (f.0.node.place, ap (option_map (λ (r : OrderedNode). r.node.place)) f.1)

  -- only the first sequence whose last node isn't before the place can end in a leaf with it
  pub no_leaf_at : (place sequence : ℕ) → PlacesRise c → IsFirstFrom c place sequence
      → (sequence < length (sequence_starts c) → IsLeaf c (sequence_end c sequence - 1) → place_at c (sequence_end c sequence - 1) ≢ Some place)
      → (leaf : ℕ) → IsLeaf c leaf → place_at c leaf ≢ Some place
  no_leaf_at place sequence rise first other leaf is e =
      let s = in_sequence c leaf (place_within c leaf place e) in
      let last : leaf ≡ sequence_end c s.0 - 1 = omega (arith, leaf_last c leaf s.0 s.1 is) in
      elim (cases_lt s.0 sequence) [
        | inl before ↦ absurd (omega (arith, first.before s.0 place before (rw last at e)))
        | inr ge ↦ elim (cases_eq s.0 sequence) [
          | inl same ↦ other (omega (arith, s.1.within)) (rw (last, same) at is) (rw (last, same) at e)
          | inr later ↦
              let lt : sequence < length (sequence_starts c) = omega (arith, s.1.within) in
              let f = placed (sequence_end c sequence - 1) (omega (arith, never_empty c sequence lt, first_within c (sequence + 1))) in
              absurd (omega (arith, first.after f.0 lt f.1, rise (sequence_end c sequence - 1) leaf f.0 place (omega (arith, lasts_rise sequence s.0 (omega arith) s.1.within)) f.1 e))
        ]
      ]
