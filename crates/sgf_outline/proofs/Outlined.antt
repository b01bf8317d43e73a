-- What the table of an outline says of its nodes and sequences.
use Rattle.sgf_outline.proofs.Common.{◌≡◌, ℕ, zero, suc, ◌+◌, ◌-◌, ◌<◌, ◌≤◌, true, false, inl, inr, List, [], ◌∷◌, ◌++◌, length, map, drop, get_or, slice_get, slice_range, Option, Some, None, option_map, refl, sym, ap, subst, ◌∙◌, arith, length-append, rules, MatchOption, ◌≢◌, flat_map, drop-drop, length-drop, cases_lt, common_steps, length-map, get_or_default, get_or_past, slice_get-get_or, get_or_from_slice_get, slice_get_cases, slice_get_read, slice_get-map, same_Some, KeptSegment, Sequence, Sequences, OrderedNode, further_nodes, ordered_nodes, node_at, nodes_at, place_at, parent_at, IsLeaf, game_of, sequence_starts, sequence_start, sequence_end, sequence_numbers, Listed, sequences_of, games_in, outer_by, game_by, is_written_by, nodes_of, HasSegments, IsKept, AreKept, IsOutlined, Spells, Node, Games, node_count, node_text, node_in, IsNodeIn, range_with_len, properties-in}
use Rattle.sgf_outline.proofs.Lists.{slice_get-left, slice_get-right}
use Rattle.sgf_outline.proofs.Rises.{Rises, rises-most, rises-count}
use Rattle.sgf_outline.proofs.OrderedNodes.{length-further_nodes, length-ordered_nodes, parent_in-further, parent_at-within, next-child, game_of-parent}
use Rattle.sgf_outline.proofs.Starts.{starts_from, starts-are, first-start}
use Rattle.sgf_outline.proofs.NodesSpelled.{IsNodeSpelled, ordered-spelled}
use Rattle.sgf_outline.proofs.ListedNodes.{number_of, last_number, own_ordered, starts-listed, starts-rise, ends-listed, IsListedAt, listed-at}

-- a spelled node is the one that its place tells
spelled-in : (text : List ℕ) (n : Node) → IsNodeSpelled text n → (n ≡ node_in text n.place) × IsNodeIn (drop n.place text)
spelled-in text n spelled = grind (arith, common_steps, drop-drop, properties-in)

-- the node at a place is the one that its place tells
pub node-told : (text : List ℕ) (g : Games) → Spells g text → (i p : ℕ) → place_at g i ≡ Some p → (node_at g i ≡ Some (node_in text p)) × IsNodeIn (drop p text) × (p < length text)
node-told text g spelled_by i p h =
    elim (slice_get_cases (ordered_nodes g) i).1 [
      | inl there ↦
          let spelled = subst (λ (q : OrderedNode). IsNodeSpelled text q.node) there.3 (ordered-spelled text g spelled_by i there.0 there.1) in
          let some : length (drop there.0.node.place text) ≡ suc (length (drop (there.0.node.place + 1) text)) = ap length spelled.begins in
          grind (arith, common_steps, spelled-in text there.0.node spelled, length-drop there.0.node.place text)
      | inr past ↦ absurd (cc)
    ]

module _ (text : List ℕ) (kept : Sequences) (outlined : IsOutlined text kept) (g : Games) (is : games_in text ≡ g) where
  spelled-by : Spells g text
  spelled-by = subst (λ c. Spells c text) is outlined.spelled

  pub node-in : (i p : ℕ) → place_at g i ≡ Some p → (node_at g i ≡ Some (node_in text p)) × IsNodeIn (drop p text) × (p < length text)
  node-in = node-told text g spelled-by

-- what an entry of the table says of a sequence
pub record IsEntryOf (text : List ℕ) (segments : List KeptSegment) (g : Games) (i : ℕ) (entry : Sequence) : Type 0 where
  pub number_is : entry.number ≡ sequence_start g i
  pub first_is : place_at g (sequence_start g i) ≡ Some entry.first
  pub last_is : place_at g (sequence_end g i - 1) ≡ Some entry.last
  pub rises : is_written_by entry ≡ true → entry.first ≤ entry.end
  pub in_text : is_written_by entry ≡ true → entry.end ≤ length text
  pub written : is_written_by entry ≡ true → slice_range text entry.first entry.end ≡ flat_map node_text (nodes_at g (sequence_numbers g i))
  pub segmented : is_written_by entry ≡ false → HasSegments text segments entry.end (nodes_at g (sequence_numbers g i))
  pub root_is : outer_by entry ≡ None → (parent_at g (sequence_start g i) ≡ Some None) × (game_of g (sequence_start g i) ≡ game_by entry)
  pub outer_is : (outer : ℕ) → outer_by entry ≡ Some outer → (outer < i) × (parent_at g (sequence_start g i) ≡ Some (Some (sequence_end g outer - 1)))

-- the nodes of the numbers from k on
nodes-are : (g : Games) (ns : List Node) (k : ℕ) → ((j : ℕ) → j < length ns → node_at g (k + j) ≡ slice_get ns j) → nodes_at g (range_with_len k (length ns)) ≡ ns
nodes-are g [] k at = refl
nodes-are g (n ∷ ns) k at =
    let e : k + 0 ≡ k = omega arith in
    let first : node_at g k ≡ Some n = ap (node_at g) (sym e) ∙ at 0 (omega arith) in
    rw first (ap (λ ms. n ∷ ms) (nodes-are g ns (k + 1) (λ j lt. let f : k + 1 + j ≡ k + suc j = omega arith in ap (node_at g) f ∙ at (suc j) (omega (arith, lt)))))

further-are : (last : ℕ) (ns : List Node) → map (λ (r : OrderedNode). r.node) (further_nodes last ns) ≡ ns
further-are last [] = refl
further-are last (n ∷ ns) = ap (λ ms. n ∷ ms) (further-are (last + 1) ns)

place-of : (o : Option OrderedNode) (n : Node) → option_map (λ (r : OrderedNode). r.node) o ≡ Some n → option_map (λ (r : OrderedNode). r.node.place) o ≡ Some n.place
place-of None n h = absurd (cc)
place-of (Some r) n h = let same : r.node ≡ n = cc in ap (λ (m : Node). Some m.place) same

module _ (g : Games) where
  listed-starts : map number_of (sequences_of g) ≡ sequence_starts g
  listed-starts = starts-listed 0 0 None 1 g ∙ sym (starts-are g)

  -- a listed sequence, in the words of the file order
  module _ (i : ℕ) (s : Listed) (is : slice_get (sequences_of g) i ≡ Some s) where
    pub stands : IsListedAt 0 0 None None 1 g i s
    stands = listed-at 0 0 None None 1 g i s is

    pub start-listed : sequence_start g i ≡ s.number
    start-listed =
        get_or_from_slice_get (sequence_starts g) i s.number 0 (ap (λ ns. slice_get ns i) (sym listed-starts) ∙ slice_get-map number_of (sequences_of g) i ∙ ap (option_map number_of) is)

    pub end-listed : sequence_end g i ≡ last_number s + 1
    end-listed =
        let e : i + 1 ≡ suc i = omega arith in
        search (rules, starts-are, starts_from, ends-listed)

    pub own-at : (j : ℕ) → j < 1 + length s.more → slice_get (ordered_nodes g) (s.number + j) ≡ slice_get (own_ordered s stands.own) j
    own-at j lt =
        ap (λ rs. slice_get rs (s.number + j)) stands.split
        ∙ slice_get-right stands.before (own_ordered s stands.own ++ stands.after) (s.number + j) j (omega (arith, stands.number_is))
        ∙ slice_get-left (own_ordered s stands.own) stands.after j (omega (arith, lt, length-further_nodes s.number s.more))

    node-listed : (j : ℕ) → j < 1 + length s.more → node_at g (s.number + j) ≡ slice_get (nodes_of s) j
    node-listed j lt =
        ap (option_map (λ (r : OrderedNode). r.node)) (own-at j lt) ∙ sym (slice_get-map (λ (r : OrderedNode). r.node) (own_ordered s stands.own) j)
        ∙ ap (λ ns. slice_get (s.first ∷ ns) j) (further-are s.number s.more)

    pub place-listed : (j : ℕ) → j < 1 + length s.more → place_at g (s.number + j) ≡ Some (get_or (nodes_of s) j s.first).place
    place-listed j lt =
        place-of (slice_get (ordered_nodes g) (s.number + j)) (get_or (nodes_of s) j s.first) (node-listed j lt ∙ slice_get-get_or (nodes_of s) j s.first (omega (arith, lt)))

    pub nodes-listed : nodes_at g (sequence_numbers g i) ≡ nodes_of s
    nodes-listed =
        let count : sequence_end g i - sequence_start g i ≡ length (nodes_of s) = omega (arith, start-listed, end-listed) in
        ap (λ k. nodes_at g (range_with_len (sequence_start g i) k)) count ∙ ap (λ k. nodes_at g (range_with_len k (length (nodes_of s)))) start-listed
        ∙ nodes-are g (nodes_of s) s.number (λ j lt. node-listed j (omega (arith, lt)))

    parent-listed : parent_at g (sequence_start g i) ≡ Some stands.own
    parent-listed =
        let e : s.number ≡ s.number + 0 = omega arith in
        ap (parent_at g) (start-listed ∙ e) ∙ ap (option_map (λ (r : OrderedNode). r.parent)) (own-at 0 (omega arith))

    further-listed : (number : ℕ) → sequence_start g i < number → number < sequence_end g i → parent_at g number ≡ Some (Some (number - 1))
    further-listed number from to = grind (arith, common_steps, start-listed, end-listed, own-at (number - s.number), parent_in-further s.number s.more (number - s.number - 1))

    within-listed : sequence_end g i ≤ node_count g
    within-listed =
        omega (arith, end-listed, stands.number_is, length-ordered_nodes g, ap length stands.split, length-append stands.before (own_ordered s stands.own ++ stands.after), length-append (own_ordered s stands.own) stands.after, length-further_nodes s.number s.more)

  -- the game of a sequence that goes on from no other one
  root-listed : (i : ℕ) (s : Listed) → slice_get (sequences_of g) i ≡ Some s → s.outer ≡ None
      → (parent_at g (sequence_start g i) ≡ Some None) × (game_of g (sequence_start g i) ≡ s.ordinal)
  root-listed i s is none =
      let w = stands i s is in
      search (rules, stands, start-listed, parent-listed)

  -- the parent where it goes on from another one
  outer-listed : (i o : ℕ) (s : Listed) → slice_get (sequences_of g) i ≡ Some s → s.outer ≡ Some o
      → (o < i) × (parent_at g (sequence_start g i) ≡ Some (Some (sequence_end g o - 1)))
  outer-listed i o s is some =
      let w = stands i s is in
      search (rules, stands, same_Some, last_number, end-listed, parent-listed)

  -- the sequence of an index
  module _ (i : ℕ) (lt : i < length (sequence_starts g)) where
    pub one-listed : (s : Listed) × (slice_get (sequences_of g) i ≡ Some s)
    one-listed =
        let none : Listed = record { first = record { place = 0; properties = [] }; more = []; number = 0; outer = None; ordinal = 0 } in
        grind (arith, common_steps, slice_get-get_or (sequences_of g) i none, length-map, listed-starts)

    pub sequence-some : sequence_start g i < sequence_end g i
    sequence-some = let s = one-listed in omega (arith, start-listed i s.0 s.1, end-listed i s.0 s.1)

    pub sequence-within : sequence_end g i ≤ node_count g
    sequence-within = let s = one-listed in within-listed i s.0 s.1

    -- its further nodes go on from the node before them
    pub sequence-further : (number : ℕ) → sequence_start g i < number → number < sequence_end g i → parent_at g number ≡ Some (Some (number - 1))
    sequence-further = let s = one-listed in further-listed i s.0 s.1

    -- and so all its nodes are in one game
    pub same-game : (d : ℕ) → sequence_start g i + d < sequence_end g i → game_of g (sequence_start g i + d) ≡ game_of g (sequence_start g i)
    same-game zero less = let e : sequence_start g i + 0 ≡ sequence_start g i = omega arith in ap (game_of g) e
    same-game (suc d) less =
        grind (arith, common_steps, game_of-parent, sequence-further, (same-game d (omega (arith, less))))

    -- with those of a sequence that goes on from it
    pub game-outer : (other : ℕ) → parent_at g (sequence_start g other) ≡ Some (Some (sequence_end g i - 1)) → game_of g (sequence_start g i) ≡ game_of g (sequence_start g other)
    game-outer other h = grind (arith, common_steps, sequence-some, same-game (sequence_end g i - 1 - sequence_start g i), game_of-parent)

  rise : Rises 0 (sequence_starts g) (0 + node_count g)
  rise = subst (λ ns. Rises 0 ns (0 + node_count g)) (sym (starts-are g)) (starts-rise 0 g)

  -- a later sequence begins where an earlier one has ended
  pub ends-before : (o i : ℕ) → o < i → i < length (sequence_starts g) → sequence_end g o ≤ sequence_start g i
  ends-before o i before lt =
      let default : sequence_end g o ≡ get_or (sequence_starts g) (o + 1) 0 = get_or_default (sequence_starts g) (o + 1) (node_count g) 0 (omega (arith, before, lt)) in
      omega (arith, default, rises-most 0 _ (sequence_starts g) (o + 1) i rise (omega (arith, before)) lt)

  -- and so no two end with one node
  same-end : (o i : ℕ) → o < i + 1 → i < length (sequence_starts g) → sequence_end g o - 1 ≡ sequence_end g i - 1 → o ≡ i
  same-end o i le lt same = grind (arith, common_steps, cases_lt o i, ends-before o i, sequence-some o, sequence-some i lt)

  pub next-start : (i : ℕ) → i + 1 < length (sequence_starts g) → sequence_start g (i + 1) ≡ sequence_end g i
  next-start i lt = get_or_default (sequence_starts g) (i + 1) 0 (node_count g) lt

  pub last-end : (i : ℕ) → i + 1 ≡ length (sequence_starts g) → sequence_end g i ≡ node_count g
  last-end i all = get_or_past (sequence_starts g) (i + 1) (node_count g) (omega (arith, all))

  -- the last node of all is a leaf
  pub end-leaf : (i : ℕ) → i + 1 ≡ length (sequence_starts g) → IsLeaf g (sequence_end g i - 1)
  end-leaf i all other h =
      let some : sequence_start g i < sequence_end g i = sequence-some i (omega (arith, all)) in
      omega (arith, some, last-end i all, length-ordered_nodes g, parent_at-within g (sequence_end g i - 1 + 1) _ (next-child g other (sequence_end g i - 1) h))

  -- a sequence that ends in a leaf is one that the next one doesn't go on from
  module _ (i : ℕ) (lt : i + 1 < length (sequence_starts g)) (outer : Option ℕ)
      (is : MatchOption outer (parent_at g (sequence_start g (i + 1)) ≡ Some None) (λ o. (o < i + 1) × (parent_at g (sequence_start g (i + 1)) ≡ Some (Some (sequence_end g o - 1))))) where
    pub leaf-if : outer ≢ Some i → IsLeaf g (sequence_end g i - 1)
    leaf-if other_one other h =
        let here : i < length (sequence_starts g) = omega (arith, lt) in
        let some : sequence_start g i < sequence_end g i = sequence-some i here in
        let e : sequence_start g (i + 1) ≡ sequence_end g i - 1 + 1 = omega (arith, some, next-start i lt) in
        let parent : parent_at g (sequence_start g (i + 1)) ≡ Some (Some (sequence_end g i - 1)) = ap (parent_at g) e ∙ next-child g other (sequence_end g i - 1) h in
        grind (arith, common_steps, same-end)

    pub if-leaf : IsLeaf g (sequence_end g i - 1) → outer ≢ Some i
    if-leaf leaf same = grind (arith, common_steps)

  -- the first sequence begins with the first node
  pub starts-first : (number : ℕ) → number < node_count g → (0 < length (sequence_starts g)) × (sequence_start g 0 ≤ number)
  starts-first number lt =
      let first : get_or (sequence_starts g) 0 (node_count g) ≡ 0 = ap (λ ns. get_or ns 0 (node_count g)) (starts-are g) ∙ first-start 0 (node_count g) g (omega arith) in
      search (rules, starts-are, first-start, cases_lt, get_or_default, get_or_past)

  -- there are no more sequences than nodes
  pub starts-few : length (sequence_starts g) ≤ node_count g
  starts-few = omega (arith, rises-count 0 _ (sequence_starts g) rise)

module _ (text : List ℕ) (kept : Sequences) (outlined : IsOutlined text kept) (g : Games) (is : games_in text ≡ g) where
  kept-by : AreKept text kept.segments.items kept.table.items (sequences_of g)
  kept-by = subst (λ c. AreKept text kept.segments.items kept.table.items (sequences_of c)) is outlined.held.are

  -- there is an entry for each sequence
  pub table_length : length kept.table.items ≡ length (sequence_starts g)
  table_length = kept-by.count ∙ sym (length-map (sequences_of g) number_of) ∙ ap length (listed-starts g)

  pub entry-in : (i : ℕ) (entry : Sequence) → i < length (sequence_starts g) → entry ≡ get_or kept.table.items i entry → IsEntryOf text kept.segments.items g i entry
  entry-in i entry lt here =
      let (s, at) = one-listed g i lt in
      let k : IsKept text kept.segments.items entry s = kept-by.each i entry s (slice_get_read kept.table.items _ i entry refl (omega (arith, lt, table_length)) here) at in
      let start : sequence_start g i ≡ s.number = start-listed g i s at in
      let end : sequence_end g i ≡ last_number s + 1 = end-listed g i s at in
      let e : s.number + 0 ≡ s.number = omega arith in
      let last : last_number s ≡ sequence_end g i - 1 = omega (arith, end) in
      let nodes : nodes_at g (sequence_numbers g i) ≡ nodes_of s = nodes-listed g i s at in
      record {
        number_is = k.number_is ∙ sym start;
        first_is = ap (place_at g) (start ∙ sym e) ∙ place-listed g i s at 0 (omega arith) ∙ ap Some (sym k.first_is);
        last_is = ap (place_at g) (sym last) ∙ place-listed g i s at (length s.more) (omega arith) ∙ ap Some (sym k.last_is);
        rises = k.rises;
        in_text = k.within;
        written = λ known. k.written known ∙ ap (flat_map node_text) (sym nodes);
        segmented = λ other. subst (HasSegments text kept.segments.items entry.end) (sym nodes) (k.segmented other);
        root_is = λ e.
            let none : s.outer ≡ None = sym k.outer_is ∙ e in
            let root = root-listed g i s at none in (root.0, root.1 ∙ sym (k.ordinal_is none));
        outer_is = λ o e. outer-listed g i o s at (sym k.outer_is ∙ e);
      }

-- an entry of a sequence that begins with a root has no other one
pub outer-none : (text : List ℕ) (segments : List KeptSegment) (g : Games) (i : ℕ) (entry : Sequence) → IsEntryOf text segments g i entry → parent_at g (sequence_start g i) ≡ Some None → outer_by entry ≡ None
outer-none text segments g i entry is root = by (outer_by entry) refl
  where
    by : (o : Option ℕ) → outer_by entry ≡ o → o ≡ None
    by None e = refl
    by (Some o) e =
        let both : Some None ≡ Some (Some (sequence_end g o - 1)) = sym root ∙ (is.outer_is o e).1 in absurd (cc)
