-- The way to a sequence by the sequences above it.
use Rattle.tree_lines.proofs.Common.{◌≡◌, ℕ, ◌+◌, ◌-◌, ◌<◌, List, [], ◌∷◌, ◌++◌, length, Option, Some, None, refl, sym, ap, subst, ◌∙◌, arith, common_steps, sequence_starts, sequence_end, Games, Front, Part, sequence_length, part_numbers, AreParts, IsAbove, ArePartsTo, MeasuresTo, IsPathTo}
use Rattle.tree_lines.specs.inner.Parts.{top, step}
use Rattle.tree_lines.proofs.SequenceStarts.{same_sequence, last_in}
use Rattle.tree_lines.proofs.SequenceParts.{end_of, parent_of, way_down, numbers_more, parts_more}

module _ (c : Games) where
  abbrev starts : List ℕ
  starts = sequence_starts c

  -- there is but one
  same_above : (k : ℕ) (a b : Option ℕ) → k < length starts → IsAbove c k a → IsAbove c k b → a ≡ b
  same_above k None None lt h g = refl
  same_above k None (Some y) lt h g = let f = g.1 in absurd cc
  same_above k (Some x) None lt h g = let f = h.1 in absurd cc
  same_above k (Some x) (Some y) lt h g =
      let x_there : x < length starts = omega (arith, h.0) in
      let y_there : y < length starts = omega (arith, g.0) in
      let ends : sequence_end c x - 1 ≡ sequence_end c y - 1 = cc in
      let same = same_sequence c (sequence_end c x - 1) x y (last_in c x x_there) (rw (← ends) at (last_in c y y_there)) in
      grind (arith, common_steps)

  -- a sequence as a part after others
  abbrev pub part_after : List Part → ℕ → Part
  part_after front k = record { sequence = k; end = length (part_numbers c front) + sequence_length c k }

  pub front_of : {k : ℕ} {above : Option ℕ} {parts : List Part} → ArePartsTo c (Some k) parts → IsAbove c k above
      → (front : List Part) × ArePartsTo c above front × (parts ≡ front ++ part_after front k ∷ [])
  front_of {k = k} {above = q} (step {above = p} {front = front} lt is up e) f = let same : p ≡ q = same_above k p q lt is f in (front, rw same at up, e)

  pub parts_path : {at : Option ℕ} {parts : List Part} → ArePartsTo c at parts → IsPathTo c (end_of c at) (part_numbers c parts)
  parts_path top = IsPathTo.top
  parts_path (step {sequence = k} {above = above} {front = front} lt is up e) = grind (arith, common_steps, numbers_more, way_down, end_of, parent_of, (parts_path up))

  pub parts_are : {at : Option ℕ} {parts : List Part} → ArePartsTo c at parts → AreParts c 0 parts
  parts_are top = tt
  parts_are (step {sequence = k} {front = front} lt is up e) = subst (AreParts c 0) (sym e) (parts_more c 0 front (part_after front k) (parts_are up) lt (omega arith))

  -- there is but one way to a sequence
  same_parts : {at : Option ℕ} {parts others : List Part} → ArePartsTo c at parts → ArePartsTo c at others → parts ≡ others
  same_parts top top = refl
  same_parts (step {sequence = k} {front = front} lt is up e) other =
      let there = front_of other is in
      e ∙ ap (λ ps. ps ++ part_after ps k ∷ []) (same_parts up there.1) ∙ sym there.2

  pub as_measured : (k : ℕ) (line : Front) (parts : List Part) → MeasuresTo c k line → ArePartsTo c (Some k) parts → line.nodes ≡ length (part_numbers c parts)
  as_measured k line parts m way = m.3 ∙ ap (λ ps. length (part_numbers c ps)) (same_parts m.1 way)
