-- Parts of a line: the numbers of their nodes, where they end, and the way to a sequence by the sequences above it.
use Rattle.tree_lines.proofs.Common.{◌≡◌, ℕ, zero, suc, ◌+◌, ◌-◌, ◌<◌, ◌≤◌, List, [], ◌∷◌, ◌++◌, length, get_or, take, slice_get, Option, Some, None, option_map, refl, ap, arith, append-nil, length-append, rules, flat_map, range_with_len, take-append_seam, drop-append_seam, common_steps, flat_map-append, length-range_with_len, OrderedNode, parent_at, node_at, nodes_at, sequence_starts, sequence_start, sequence_end, sequence_numbers, Node, Games, node_count, RiseTo, parts_from, Part, sequence_length, parts_of, part_numbers, part_ends, AreParts, IsAbove, IsPathTo, sequence-further}
use Rattle.tree_lines.proofs.Lists.{front_more}
use Rattle.tree_lines.proofs.Visits.{way_along}
use Rattle.tree_lines.proofs.SequenceStarts.{ordered_there, never_empty, length_is, start_is, first_within}

module _ (c : Games) where
  -- ---- Where parts end.

  pub sequence_long : (k : ℕ) → length (sequence_numbers c k) ≡ sequence_length c k
  sequence_long k = length-range_with_len (sequence_start c k) (sequence_length c k)

  -- parts, and one more
  pub parts_more : (start : ℕ) (parts : List Part) (part : Part) → AreParts c start parts → part.sequence < length (sequence_starts c)
      → part.end ≡ start + length (part_numbers c parts) + sequence_length c part.sequence → AreParts c start (parts ++ part ∷ [])
  parts_more start [] part are lt e = (lt, omega arith, tt)
  parts_more start (p ∷ ps) part are lt e =
      (are.0, are.1, parts_more p.end ps part are.2 lt (omega (arith, e, are.1, length-append (sequence_numbers c p.sequence) (part_numbers c ps), sequence_long p.sequence)))

  pub part_within : (start : ℕ) (parts : List Part) (i : ℕ) (part : Part) → AreParts c start parts → slice_get parts i ≡ Some part → part.sequence < length (sequence_starts c)
  part_within start [] i part are e = absurd cc
  part_within start (p ∷ ps) zero part are e = let same : p ≡ part = cc in rw same at are.0
  part_within start (p ∷ ps) (suc i) part are e = part_within p.end ps i part are.2 e

  pub parts_front : (start : ℕ) (parts : List Part) (k : ℕ) → AreParts c start parts → AreParts c start (take k parts)
  parts_front start parts zero are = tt
  parts_front start [] (suc k) are = tt
  parts_front start (p ∷ ps) (suc k) are = (are.0, are.1, parts_front p.end ps k are.2)

  -- a front ends after its nodes
  pub front_end : (start : ℕ) (parts : List Part) (k : ℕ) → AreParts c start parts → k ≤ length parts → get_or (start ∷ part_ends parts) k 0 ≡ start + length (part_numbers c (take k parts))
  front_end start parts zero are le = omega arith
  front_end start [] (suc k) are le = absurd (omega arith)
  front_end start (p ∷ ps) (suc k) are le = grind (arith, common_steps, (front_end p.end ps k are.2 (omega arith)), length-append, sequence_long)

  pub rise_to : (start : ℕ) (parts : List Part) → AreParts c start parts → RiseTo start (part_ends parts) (start + length (part_numbers c parts))
  rise_to start [] are = omega arith
  rise_to start (p ∷ ps) are = grind (arith, common_steps, length-append, sequence_long, never_empty, (rise_to p.end ps are.2))

  -- ---- Parts by the numbers of their sequences.

  pub length-parts_of : (start : ℕ) (path : List ℕ) → length (parts_of c start path) ≡ length path
  length-parts_of start [] = refl
  length-parts_of start (k ∷ ks) = ap suc (length-parts_of (start + sequence_length c k) ks)

  -- a part with that number
  abbrev pub IsPartAt : List Part → ℕ → ℕ → Type 0
  IsPartAt parts i k = (part : Part) × (slice_get parts i ≡ Some part) × (part.sequence ≡ k)

  pub part_at : (start : ℕ) (path : List ℕ) (i k : ℕ) → slice_get path i ≡ Some k → IsPartAt (parts_of c start path) i k
  part_at start [] i k e = absurd cc
  part_at start (j ∷ js) zero k e = let same : j ≡ k = cc in (record { sequence = j; end = start + sequence_length c j }, refl, same)
  part_at start (j ∷ js) (suc i) k e = part_at (start + sequence_length c j) js i k e

  -- a part has the number that the path has there
  pub part_number : (start : ℕ) (path : List ℕ) (i d : ℕ) (part : Part) → slice_get (parts_of c start path) i ≡ Some part → part.sequence ≡ get_or path i d
  part_number start [] i d part e = absurd cc
  part_number start (k ∷ ks) zero d part e = grind (arith, common_steps)
  part_number start (k ∷ ks) (suc i) d part e = part_number (start + sequence_length c k) ks i d part e

  pub take-parts_of : (n start : ℕ) (path : List ℕ) → parts_of c start (take n path) ≡ take n (parts_of c start path)
  take-parts_of zero start path = refl
  take-parts_of (suc n) start [] = refl
  take-parts_of (suc n) start (k ∷ ks) =
      ap (λ ps. record { sequence = k; end = start + sequence_length c k } ∷ ps) (take-parts_of n (start + sequence_length c k) ks)

  pub parts_of-append : (start : ℕ) (xs ys : List ℕ)
      → parts_of c start (xs ++ ys) ≡ parts_of c start xs ++ parts_of c (start + length (part_numbers c (parts_of c start xs))) ys
  parts_of-append start [] ys = let same : start + 0 ≡ start = omega arith in rw same refl
  parts_of-append start (k ∷ ks) ys = search (rules, length-append, sequence_long, (parts_of-append (start + sequence_length c k) ks ys))

  -- ---- The nodes of parts.

  node_there : (n : ℕ) → n < node_count c → (node : Node) × (node_at c n ≡ Some node)
  node_there n lt = let f = ordered_there c n lt in (f.0.node, ap (option_map (λ (r : OrderedNode). r.node)) f.1)

  nodes_long : (at n : ℕ) → at + n ≤ node_count c → length (nodes_at c (range_with_len at n)) ≡ n
  nodes_long at zero le = refl
  nodes_long at (suc n) le =
      let f = node_there at (omega arith) in
      grind (arith, common_steps, length-append, (nodes_long (at + 1) n (omega arith)))

  -- as many elements for each part as it has nodes
  abbrev pub AreOfParts : {A : Type 0} → (Part → List A) → Type 0
  AreOfParts f = (part : Part) → part.sequence < length (sequence_starts c) → length (f part) ≡ sequence_length c part.sequence

  -- the elements of a part, among those of all parts
  pub part_elements : {A : Type 0} (f : Part → List A) (start : ℕ) (parts : List Part) (i : ℕ) (part : Part) → AreOfParts f → AreParts c start parts → slice_get parts i ≡ Some part
      → slice_get (parts_from start (part_ends parts) (flat_map f parts)) i ≡ Some (f part)
  part_elements f start [] i part long are e = absurd cc
  part_elements f start (p ∷ ps) zero part long are e = grind (arith, common_steps, take-append_seam)
  part_elements f start (p ∷ ps) (suc i) part long are e = grind (arith, common_steps, drop-append_seam, (part_elements f p.end ps i part long are.2 e))

  pub part_range : (start : ℕ) (parts : List Part) (i : ℕ) (part : Part) → AreParts c start parts → slice_get parts i ≡ Some part
      → slice_get (parts_from start (part_ends parts) (part_numbers c parts)) i ≡ Some (sequence_numbers c part.sequence)
  part_range start parts i part are e = part_elements (λ (p : Part). sequence_numbers c p.sequence) start parts i part (λ p lt. sequence_long p.sequence) are e

  all_nodes : (parts : List Part) → nodes_at c (part_numbers c parts) ≡ flat_map (λ (p : Part). nodes_at c (sequence_numbers c p.sequence)) parts
  all_nodes [] = refl
  all_nodes (p ∷ ps) = grind (arith, common_steps, flat_map-append, all_nodes ps)

  pub part_nodes : (start : ℕ) (parts : List Part) (i : ℕ) (part : Part) → AreParts c start parts → slice_get parts i ≡ Some part
      → slice_get (parts_from start (part_ends parts) (nodes_at c (part_numbers c parts))) i ≡ Some (nodes_at c (sequence_numbers c part.sequence))
  part_nodes start parts i part are e = search (rules, all_nodes, part_elements, nodes_long, start_is, length_is, first_within)

  -- ---- The way through a sequence.

  pub way_down : (k : ℕ) (parent : Option ℕ) (above : List ℕ) → k < length (sequence_starts c) → parent_at c (sequence_start c k) ≡ Some parent → IsPathTo c parent above
      → IsPathTo c (Some (sequence_end c k - 1)) (above ++ sequence_numbers c k)
  way_down k parent above lt e way =
      let some = never_empty c k lt in
      let count : suc (sequence_length c k - 1) ≡ sequence_length c k = omega arith in
      let way_is = way_along c (sequence_length c k - 1) (sequence_start c k) parent above e way (λ n from to. sequence-further c k lt n from (omega arith)) in
      grind (arith, common_steps)

  -- ---- The sequences above a sequence.

  -- the last node of a sequence
  abbrev pub end_of : Option ℕ → Option ℕ
  end_of at = option_map (λ (k : ℕ). sequence_end c k - 1) at

  pub parent_of : (k : ℕ) (above : Option ℕ) → IsAbove c k above → parent_at c (sequence_start c k) ≡ Some (end_of above)
  parent_of k None is = is
  parent_of k (Some a) is = is.1

  pub numbers_more : (front : List Part) (part : Part) → part_numbers c (front ++ part ∷ []) ≡ part_numbers c front ++ sequence_numbers c part.sequence
  numbers_more front part = grind (arith, common_steps, flat_map-append, append-nil)

  -- the nodes of a front that is longer by a part
  pub longer_front : (parts : List Part) (i : ℕ) (part : Part) → slice_get parts i ≡ Some part
      → length (part_numbers c (take (i + 1) parts)) ≡ length (part_numbers c (take i parts)) + sequence_length c part.sequence
  longer_front parts i part e = grind (arith, common_steps, front_more parts i part e, numbers_more (take i parts) part, length-append, sequence_long)

  -- one sequence less of a front
  pub one_back : (path : List ℕ) (i k : ℕ) → AreParts c 0 (parts_of c 0 path) → slice_get path i ≡ Some k → (k < length (sequence_starts c))
      × (length (part_numbers c (take (i + 1) (parts_of c 0 path))) ≡ length (part_numbers c (take i (parts_of c 0 path))) + sequence_length c k)
  one_back path i k are e =
      let p = part_at 0 path i k e in
      search (rules, part_at, part_within, longer_front)
