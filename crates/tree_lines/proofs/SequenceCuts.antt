-- From the parts of a line to those of the next line.
use Rattle.tree_lines.proofs.Common.{◌≡◌, ◌≢◌, ℕ, zero, suc, ◌+◌, ◌-◌, ◌<◌, ◌≤◌, List, [], ◌∷◌, ◌++◌, length, take, drop, slice_get, Option, Some, refl, sym, ap, ◌∙◌, arith, append_assoc, append-nil, length-append, take-append-drop, length-take-le, range_with_len, common_steps, flat_map-append, take-append-le, get_or-range_with_len, length-range_with_len, slice_get-get_or, sequence_starts, sequence_start, sequence_end, sequence_numbers, Games, Front, nodes_in, Part, first_of, sequence_length, parts_of, part_numbers, part_ends, AreParts, IsUpTo, IsFrontUpTo, GoesDown, IsCutBack, slice_get-left, slice_get-right}
use Rattle.tree_lines.proofs.Lists.{Each, each_append, each_get, element, front_more, range_append}
use Rattle.tree_lines.proofs.SequenceStarts.{first_no_less, never_empty, same_sequence, last_in, start_is, length_is}
use Rattle.tree_lines.proofs.SequenceParts.{end_of, numbers_more, parts_more, part_within, parts_front, front_end, sequence_long, length-parts_of, take-parts_of, parts_of-append}
use Rattle.tree_lines.proofs.SequenceWays.{part_after}

range_get : (at n j : ℕ) → j < n → slice_get (range_with_len at n) j ≡ Some (at + j)
range_get at n j lt = slice_get-get_or (range_with_len at n) j 0 (omega (arith, length-range_with_len at n)) ∙ ap Some (get_or-range_with_len at n j 0 lt)

module _ (c : Games) where
  -- ---- The cut.

  -- a sequence has not the last node of another
  no_such : (k outer : ℕ) → k < length (sequence_starts c) → outer < length (sequence_starts c) → k ≢ outer → Each (λ n. n ≢ sequence_end c outer - 1) (sequence_numbers c k)
  no_such k outer lt there other = in_range (sequence_start c k) (sequence_length c k) (omega arith) (omega (arith, never_empty c k lt))
    where
      in_range : (at n : ℕ) → sequence_start c k ≤ at → at + n ≤ sequence_end c k → Each (λ m. m ≢ sequence_end c outer - 1) (range_with_len at n)
      in_range at zero from to = tt
      in_range at (suc n) from to = (
        λ e. other (same_sequence c (sequence_end c outer - 1) k outer (record { within = lt; start = omega arith; end = omega arith }) (last_in c outer there)),
        in_range (at + 1) n (omega arith) (omega arith),
      )

  no_such_part : (outer : ℕ) (parts : List Part) → outer < length (sequence_starts c)
      → ((i : ℕ) (part : Part) → slice_get parts i ≡ Some part → (part.sequence < length (sequence_starts c)) × (part.sequence ≢ outer)) → Each (λ n. n ≢ sequence_end c outer - 1) (part_numbers c parts)
  no_such_part outer [] there other = tt
  no_such_part outer (part ∷ parts) there other =
      let here = other 0 part refl in
      each_append (λ n. n ≢ sequence_end c outer - 1) (sequence_numbers c part.sequence) (part_numbers c parts) (no_such part.sequence outer here.0 there here.1)
      (no_such_part outer parts there (λ i q e. other (suc i) q e))

  pub split_numbers : (k : ℕ) (parts : List Part) → part_numbers c parts ≡ part_numbers c (take k parts) ++ part_numbers c (drop k parts)
  split_numbers k parts = grind (arith, common_steps, take-append-drop k parts, flat_map-append)

  module _ (parts : List Part) (are : AreParts c 0 parts) where
    -- how many nodes a front has
    pub nodes_are : (k : ℕ) → k ≤ length parts → nodes_in (part_ends parts) k ≡ length (part_numbers c (take k parts))
    nodes_are k le = omega (arith, front_end c 0 parts k are le)

    -- the front in nodes ends with the parent
    cut_at : (outer : ℕ) (front : Front) → outer < length (sequence_starts c) → IsUpTo parts outer front → IsCutBack (part_numbers c parts) (Some (sequence_end c outer - 1)) front.nodes
    cut_at outer front there h =
        let p = sequence_end c outer - 1 in
        let k = front.sequences in
        let before = part_numbers c (take k parts) in
        let behind = part_numbers c (drop k parts) in
        let count : front.nodes ≡ length before = h.count ∙ nodes_are k h.within in
        let both : part_numbers c parts ≡ before ++ behind = split_numbers k parts in
        let long : length (part_numbers c parts) ≡ length before + length behind = ap length both ∙ length-append before behind in
        let others : Each (λ n. n ≢ p) behind = no_such_part outer (drop k parts) there
        (λ i part e.
        let here : slice_get parts (k + i) ≡ Some part = (rw take-append-drop at (slice_get-right (take k parts) (drop k parts) (k + i) i (omega (arith, length-take-le k parts h.within)))) ∙ e in
        (part_within c 0 parts (k + i) part are here, h.others (k + i) part (omega arith) here)) in (
          omega arith,
          λ i ge lt e.
              let here : slice_get behind (i - length before) ≡ Some p = sym (slice_get-right before behind i (i - length before) (omega arith)) ∙ ap (λ ns. slice_get ns i) (sym both) ∙ e in
              each_get (λ n. n ≢ p) behind (i - length before) p others here refl,
          λ some. last_kept outer front h k refl some count both,
        )
      where
        last_kept : (outer : ℕ) (front : Front) → IsUpTo parts outer front → (k : ℕ) → k ≡ front.sequences → 0 < front.nodes → front.nodes ≡ length (part_numbers c (take k parts))
            → part_numbers c parts ≡ part_numbers c (take k parts) ++ part_numbers c (drop k parts) → slice_get (part_numbers c parts) (front.nodes - 1) ≡ Some (sequence_end c outer - 1)
        last_kept outer front h zero is some count both = absurd (omega arith)
        last_kept outer front h (suc i) is some count both =
            let f = element parts i (omega (arith, h.within)) in
            let part = f.0 in
            let lt = part_within c 0 parts i part are f.1 in
            let end = ap (sequence_end c) (h.last i part (omega arith) f.1) in
            let some_node = never_empty c part.sequence lt in
            let one : i + 1 ≡ suc i = omega arith in
            let kept : part_numbers c (take (suc i) parts) ≡ part_numbers c (take i parts) ++ sequence_numbers c part.sequence =
            ap (part_numbers c) (rw one at (front_more parts i part f.1)) ∙ numbers_more c (take i parts) part in
            let long : length (part_numbers c (take (suc i) parts)) ≡ length (part_numbers c (take i parts)) + sequence_length c part.sequence =
            ap length kept ∙ length-append (part_numbers c (take i parts)) (sequence_numbers c part.sequence) ∙ ap (λ n. length (part_numbers c (take i parts)) + n) (sequence_long c part.sequence) in
            let last : sequence_start c part.sequence + (sequence_length c part.sequence - 1) ≡ sequence_end c outer - 1 = omega arith in
            ap (λ ns. slice_get ns (front.nodes - 1)) both
            ∙ slice_get-left (part_numbers c (take (suc i) parts)) (part_numbers c (drop (suc i) parts)) (front.nodes - 1) (omega arith)
            ∙ ap (λ ns. slice_get ns (front.nodes - 1)) kept
            ∙ slice_get-right (part_numbers c (take i parts)) (sequence_numbers c part.sequence) (front.nodes - 1) (sequence_length c part.sequence - 1) (omega arith)
            ∙ range_get (sequence_start c part.sequence) (sequence_length c part.sequence) (sequence_length c part.sequence - 1) (omega arith)
            ∙ ap Some last

    pub cut_back : (outer : Option ℕ) (front : Front) → ((o : ℕ) → outer ≡ Some o → o < length (sequence_starts c)) → IsFrontUpTo parts outer front
        → IsCutBack (part_numbers c parts) (end_of c outer) front.nodes
    cut_back outer front there h = grind (arith, common_steps, cut_at)

    pub front_within : (outer : Option ℕ) (front : Front) → IsFrontUpTo parts outer front → (front.sequences ≤ length parts) × (front.nodes ≡ nodes_in (part_ends parts) front.sequences)
    front_within outer front h = grind (arith, common_steps)

  -- ---- Down to the next leaf.

  pub descent_begins : (old : List Part) (kept first : ℕ) → AreParts c 0 old → kept ≤ length old → GoesDown c old kept first first (take kept old)
  descent_begins old kept first are le = grind (arith, common_steps, length-take-le, append-nil, parts_front)

  descends : (old new : List Part) (kept first end : ℕ) → GoesDown c old kept first end new → AreParts c 0 old → kept ≤ length old
      → first ≤ end → end < length (sequence_starts c) → GoesDown c old kept first (end + 1) (new ++ part_after c new end ∷ [])
  descends old new kept first end h are le from lt =
      let f = first_of c first in
      let e = first_of c end in
      let up = first_no_less c first end from (omega arith) in
      let there = start_is c end lt in
      let own : sequence_numbers c end ≡ range_with_len e (sequence_length c end) = ap (λ n. range_with_len n (sequence_length c end)) there in
      let reach : f + (e - f) ≡ e = omega arith in
      grind (arith, common_steps, length_is, range_append, take-append-le, length-append, numbers_more, append_assoc, parts_more)

  -- a front of the path, and the sequences down to a leaf
  pub goes_down : (path : List ℕ) (kept first count : ℕ) → AreParts c 0 (parts_of c 0 path) → kept ≤ length path → first + count ≤ length (sequence_starts c)
      → GoesDown c (parts_of c 0 path) kept first (first + count) (parts_of c 0 (take kept path ++ range_with_len first count))
  goes_down path kept first zero are le within =
      let same : first + 0 ≡ first = omega arith in
      rw (same, append-nil (take kept path), take-parts_of c kept 0 path) (descent_begins (parts_of c 0 path) kept first are (omega (arith, length-parts_of c 0 path)))
  goes_down path kept first (suc n) are le within =
      let old = parts_of c 0 path in
      let so_far = take kept path ++ range_with_len first n in
      let down = descends old (parts_of c 0 so_far) kept first (first + n) (goes_down path kept first n are le (omega arith)) are (omega (arith, length-parts_of c 0 path)) (omega arith) (omega arith) in
      let one : n + 1 ≡ suc n = omega arith in
      let end : first + n + 1 ≡ first + suc n = omega arith in
      let longer : take kept path ++ range_with_len first (suc n) ≡ so_far ++ (first + n) ∷ [] =
      ap (λ ns. take kept path ++ ns) (ap (range_with_len first) (sym one) ∙ sym (range_append first n 1)) ∙ sym (append_assoc (take kept path) (range_with_len first n) ((first + n) ∷ [])) in
      grind (arith, common_steps, part_after, parts_of-append)
