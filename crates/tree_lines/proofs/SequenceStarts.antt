-- Where the sequences of a collection begin and end among its nodes, and which nodes are leaves.
use Rattle.tree_lines.proofs.Common.{◌≡◌, ℕ, zero, suc, ◌+◌, ◌-◌, ◌<◌, ◌≤◌, inl, inr, List, length, get_or, slice_get, Some, ap, ◌∙◌, arith, rules, cases_lt, cases_eq, common_steps, get_or_past, slice_get-get_or, get_or_from_slice_get, OrderedNode, ordered_nodes, IsLeaf, sequence_starts, sequence_start, sequence_end, Games, node_count, first_of, sequence_length, HasNoLeaf, length-ordered_nodes, sequence-further, Rises, rises-count, rises-get, rises-pair}
use Rattle.sgf_outline.proofs.Starts.{starts-are, first-start}
use Rattle.sgf_outline.proofs.ListedNodes.{starts-rise}
use Rattle.tree_lines.proofs.Lists.{element}

module _ (c : Games) where
  pub ordered_there : (n : ℕ) → n < node_count c → (r : OrderedNode) × (slice_get (ordered_nodes c) n ≡ Some r)
  ordered_there n lt = element (ordered_nodes c) n (omega (arith, length-ordered_nodes c))

  -- ---- The first nodes of sequences.

  abbrev starts : List ℕ
  starts = sequence_starts c

  starts_rise : Rises 0 starts (node_count c)
  starts_rise = let sum : 0 + node_count c ≡ node_count c = omega arith in rw (starts-are c, ← sum) (starts-rise 0 c)

  -- there are no more sequences than nodes
  pub fewer : length starts ≤ node_count c
  fewer = omega (arith, rises-count 0 (node_count c) starts starts_rise)

  at_start : (k : ℕ) → k < length starts → slice_get starts k ≡ Some (first_of c k)
  at_start k lt = slice_get-get_or starts k (node_count c) lt

  pub past_all : (k : ℕ) → length starts ≤ k → first_of c k ≡ node_count c
  past_all k le = get_or_past starts k (node_count c) le

  pub start_is : (k : ℕ) → k < length starts → sequence_start c k ≡ first_of c k
  start_is k lt = get_or_from_slice_get starts k (first_of c k) 0 (at_start k lt)

  pub start_within : (k : ℕ) → k < length starts → first_of c k < node_count c
  start_within k lt = (rises-get 0 (node_count c) starts k (first_of c k) starts_rise (at_start k lt)).1

  pub first_within : (k : ℕ) → first_of c k ≤ node_count c
  first_within k = elim (cases_lt k (length starts)) [ inl lt ↦ omega (arith, start_within k lt) | inr ge ↦ omega (arith, past_all k ge) ]

  pub first_rises : (j k : ℕ) → j < k → j < length starts → first_of c j < first_of c k
  first_rises j k lt there = elim (cases_lt k (length starts)) [
    | inl within ↦ rises-pair 0 (node_count c) starts j k (first_of c j) (first_of c k) starts_rise lt (at_start j there) (at_start k within)
    | inr ge ↦ omega (arith, past_all k ge, start_within j there)
  ]

  pub first_no_less : (j k : ℕ) → j ≤ k → j < length starts → first_of c j ≤ first_of c k
  first_no_less j k le there = search (rules, cases_eq, first_rises)

  pub first_is_zero : first_of c 0 ≡ 0
  first_is_zero = ap (λ ns. get_or ns 0 (node_count c)) (starts-are c) ∙ first-start 0 (node_count c) c (omega arith)

  -- the sequence that has a node
  pub record IsSequenceOf (n k : ℕ) : Type 0 where
    pub within : k < length starts
    pub start : sequence_start c k ≤ n
    pub end : n < sequence_end c k

  -- the sequences before the k-th have the nodes before its first one
  before_first : (k n : ℕ) → k ≤ length starts → n < first_of c k → (s : ℕ) × IsSequenceOf n s × (s < k)
  before_first zero n le lt = absurd (omega (arith, first_is_zero))
  before_first (suc k) n le lt = elim (cases_lt n (first_of c k)) [
    | inl before ↦ let f = before_first k n (omega arith) before in (f.0, f.1, omega (arith, f.2))
    | inr ge ↦
        let next : k + 1 ≡ suc k = omega arith in
        (k, record { within = omega arith; start = omega (arith, start_is k (omega arith)); end = rw next lt }, omega arith)
  ]

  pub in_sequence : (n : ℕ) → n < node_count c → (s : ℕ) × IsSequenceOf n s
  in_sequence n lt = let f = before_first (length starts) n (omega arith) (omega (arith, past_all (length starts) (omega arith))) in (f.0, f.1)

  -- ---- Inside a sequence.

  pub never_empty : (k : ℕ) → k < length starts → sequence_start c k < sequence_end c k
  never_empty k lt = omega (arith, start_is k lt, first_rises k (k + 1) (omega arith) lt)

  pub length_is : (k : ℕ) → k < length starts → first_of c k + sequence_length c k ≡ first_of c (k + 1)
  length_is k lt = omega (arith, start_is k lt, never_empty k lt)

  -- a node stands in but one sequence
  pub same_sequence : (n j k : ℕ) → IsSequenceOf n j → IsSequenceOf n k → j ≡ k
  same_sequence n j k a b = grind (arith, common_steps, cases_lt, start_is, first_no_less)

  -- its last node stands in it
  pub last_in : (k : ℕ) → k < length starts → IsSequenceOf (sequence_end c k - 1) k
  last_in k lt = record { within = lt; start = omega (arith, never_empty k lt); end = omega (arith, never_empty k lt) }

  -- a leaf is the last of its sequence
  pub leaf_last : (n k : ℕ) → IsSequenceOf n k → IsLeaf c n → n + 1 ≡ sequence_end c k
  leaf_last n k is leaf = grind (arith, common_steps, sequence-further c k is.within (n + 1), leaf (n + 1))

  -- no leaf stands before the last node of a sequence, and none up to the next sequence, if that isn't one
  pub no_leaf_inside : (from k : ℕ) → k < length starts → HasNoLeaf c (first_of c from) (first_of c k) → HasNoLeaf c (first_of c from) (sequence_end c k - 1)
  no_leaf_inside from k lt none n ge below leaf = grind (arith, common_steps, start_is k lt, none n ge, leaf_last n k)

  pub no_leaf_more : (from k : ℕ) → k < length starts → HasNoLeaf c (first_of c from) (first_of c k) → (IsLeaf c (sequence_end c k - 1) → ⊥) → HasNoLeaf c (first_of c from) (first_of c (k + 1))
  no_leaf_more from k lt none other_end n ge below leaf = grind (arith, common_steps, start_is k lt, cases_eq n (sequence_end c k - 1), no_leaf_inside from k lt none n ge)
