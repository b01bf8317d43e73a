-- The loops that climb from a sequence to the root of its game.
use Rattle.tree_lines.proofs.Common.{◌≡◌, ℕ, ◌+◌, ◌-◌, ◌<◌, ◌≤◌, List, [], ◌∷◌, ◌++◌, length, set, drop, Option, Some, None, refl, ap, arith, append-nil, append_assoc, length-append, length-set, rules, drop-length, common_steps, drop-set_at, sequence_starts, Games, node_count, Front, Part, first_of, sequence_length, parts_of, part_numbers, IsAbove, ArePartsTo, IsWayTo, MeasuresTo}
use Rattle.tree_lines.specs.inner.Parts.{top, step}
use Rattle.tree_lines.proofs.SequenceStarts.{first_no_less, length_is, first_within}
use Rattle.tree_lines.proofs.SequenceParts.{numbers_more, sequence_long}
use Rattle.tree_lines.proofs.SequenceWays.{part_after, front_of, as_measured}

-- one more than a sequence's number, and 0 above a root's
abbrev pub height : Option ℕ → ℕ
height None = 0
height (Some k) = k + 1

module _ (c : Games) where
  -- the number of the node after a sequence, and 0 above a root's
  abbrev pub reach : Option ℕ → ℕ
  reach None = 0
  reach (Some k) = first_of c (k + 1)

  -- a sequence of the collection
  abbrev pub IsThere : Option ℕ → Type 0
  IsThere current = (k : ℕ) → current ≡ Some k → k < length (sequence_starts c)

  pub height_falls : (k : ℕ) (current above : Option ℕ) → current ≡ Some k → IsAbove c k above → height above < height current
  height_falls k current above e is = grind (arith, common_steps)

  reach_falls : (k : ℕ) (above : Option ℕ) → k < length (sequence_starts c) → IsAbove c k above → reach above ≤ first_of c k
  reach_falls k above lt is = grind (arith, common_steps, first_no_less)

  above_there : (k : ℕ) (above : Option ℕ) → k < length (sequence_starts c) → IsAbove c k above → IsThere above
  above_there k above lt is j e = grind (arith, common_steps)

  -- the nodes of parts and one sequence more
  nodes_more : (front : List Part) (k : ℕ) → length (part_numbers c (front ++ part_after c front k ∷ [])) ≡ length (part_numbers c front) + sequence_length c k
  nodes_more front k = search (rules, numbers_more, length-append, sequence_long)

  -- the sequences and nodes of the way that the loop has passed are counted
  pub record IsMeasured (last : ℕ) (current : Option ℕ) (sequences nodes : ℕ) : Type 0 where
    pub there : IsThere current
    pub few : sequences + height current ≤ last + 1
    pub short : reach current + nodes ≤ node_count c
    pub count : (above : List Part) → ArePartsTo c current above → (parts : List Part) × ArePartsTo c (Some last) parts
        × (length above + sequences ≡ length parts) × (length (part_numbers c above) + nodes ≡ length (part_numbers c parts))

  pub measure_begins : (last : ℕ) → last < length (sequence_starts c) → IsMeasured last (Some last) 0 0
  measure_begins last lt = grind (arith, common_steps, first_within)

  pub measures : (last k sequences nodes : ℕ) (current above : Option ℕ) → IsMeasured last current sequences nodes → current ≡ Some k → IsAbove c k above
      → IsMeasured last above (sequences + 1) (nodes + sequence_length c k)
  measures last k sequences nodes current above h e is =
      let lt = h.there k e in
      record {
        there = above_there k above lt is;
        few = omega (arith, h.few, height_falls k current above e is);
        short = omega (arith, h.short, ap reach e, reach_falls k above lt is, length_is c k lt);
        count = λ front way.
            let here : ArePartsTo c current (front ++ part_after c front k ∷ []) = rw e (step lt is way refl) in
            grind (arith, common_steps, part_after, length-append, nodes_more);
      }

  -- the counts fit
  pub measure_fits : (last k sequences nodes : ℕ) (current : Option ℕ) → IsMeasured last current sequences nodes → current ≡ Some k
      → (sequences ≤ last) × (nodes + sequence_length c k ≤ node_count c)
  measure_fits last k sequences nodes current h e = grind (arith, common_steps, length_is)

  pub measured : (last sequences nodes : ℕ) (current : Option ℕ) → IsMeasured last current sequences nodes → current ≡ None → MeasuresTo c last (record { sequences = sequences; nodes = nodes })
  measured last sequences nodes current h e = let n = h.count [] (rw e top) in (n.0, n.1, omega (arith, n.2), omega (arith, n.3))

  -- the numbers of the sequences that the loop has passed are written
  pub record IsFilled (last : ℕ) (current : Option ℕ) (room : ℕ) (path : List ℕ) : Type 0 where
    pub there : IsThere current
    pub front : List Part
    pub way : ArePartsTo c current front
    pub room_is : room ≡ length front
    pub within : room ≤ length path
    pub filled : ArePartsTo c (Some last) (front ++ parts_of c (length (part_numbers c front)) (drop room path))

  -- what the loop can count on at a sequence
  pub record IsRoomFor (room k : ℕ) : Type 0 where
    pub there : k < length (sequence_starts c)
    pub some_room : 0 < room

  some_above : {k : ℕ} {parts : List Part} → ArePartsTo c (Some k) parts → (above : Option ℕ) × IsAbove c k above
  some_above (step {above = above} lt is up e) = (above, is)

  pub room_for : (last k room : ℕ) (path : List ℕ) (current : Option ℕ) → IsFilled last current room path → current ≡ Some k → IsRoomFor room k
  room_for last k room path current h e = search (rules, front_of, some_above, length-append)

  pub fill_begins : (last : ℕ) (line : Front) (path : List ℕ) → last < length (sequence_starts c) → MeasuresTo c last line → line.sequences ≡ length path
      → IsFilled last (Some last) line.sequences path
  fill_begins last line path lt m room = search (rules, drop-length, append-nil)

  pub fills : (last k room : ℕ) (path : List ℕ) (current above : Option ℕ) → IsFilled last current room path → current ≡ Some k → IsAbove c k above
      → IsFilled last above (room - 1) (set path (room - 1) k)
  fills last k room path current above h e is =
      search (rules, front_of, length-append, drop-set_at, nodes_more, append_assoc, above_there, length-set)

  pub filled : (last : ℕ) (line : Front) (room : ℕ) (path : List ℕ) (current : Option ℕ) → MeasuresTo c last line → IsFilled last current room path → current ≡ None → IsWayTo c last path line.nodes
  filled last line room path current m h e =
      let none = nothing_above (rw e at h.way) in
      let zero_room : room ≡ 0 = omega (arith, h.room_is, ap length none) in
      let way : ArePartsTo c (Some last) (parts_of c 0 path) = rw (none, zero_room) at h.filled in
      (way, as_measured c last line (parts_of c 0 path) m way)
    where
      nothing_above : {parts : List Part} → ArePartsTo c None parts → parts ≡ []
      nothing_above top = refl
