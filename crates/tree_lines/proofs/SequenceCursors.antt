-- What a cursor by sequences shows of the line before it, and where it stands after the next leaf.
use Rattle.tree_lines.proofs.Common.{cases_eq, PlacesRise, IsFirstFrom, ◌≡◌, ◌≢◌, ℕ, suc, ◌+◌, ◌-◌, ◌<◌, ◌≤◌, inl, inr, List, [], ◌∷◌, ◌++◌, length, get_or, take, slice_get, Option, Some, None, option_map, refl, sym, ap, ◌∙◌, arith, add-one, length-append, rules, length-take-le, range_with_len, take-append_seam, common_steps, length-map, take-map, get_or-range_with_len, length-range_with_len, slice_get-get_or, parent_at, place_at, node_at, nodes_at, game_of, IsLeaf, sequence_starts, sequence_start, sequence_end, sequence_numbers, Node, Games, node_count, Front, CursorState, advanced, IsAfterPlace, lines_before, Continues, path_before, nodes_before, line_before, line_in, nodes_of, lines, place_of, Line, HasNoLineAt, SequencesState, SharesFront, RiseTo, sequences_of, parts_from, Part, first_of, parts_of, part_numbers, part_ends, AreParts, IsAfterSequences, IsCursorKept, IsWayTo, IsNextEnd, IsFrontUpTo, GoesDown, IsAbove, ArePartsTo, HasNoLeaf, IsNextLeaf, IsCutBack, IsAfterLeaf}
use Rattle.std.proofs.Math.ListN.{get_or-append}
use Rattle.tree_lines.proofs.Fronts.{rises_over}
use Rattle.tree_lines.proofs.Named.{line_at}
use Rattle.tree_lines.proofs.LineNodes.{as_many_nodes, nodes_after, node_is, some_before, line_is}
use Rattle.tree_lines.proofs.CursorStates.{before, starts, IsShown, shows_line, advances, none_is_left}
use Rattle.tree_lines.proofs.Seeking.{stands_after, sought, no_line}
use Rattle.tree_lines.proofs.Descending.{path_is, short, kept_within, stands_next, continues_made, shares}
use Rattle.tree_lines.proofs.SequenceStarts.{first_no_less, never_empty, start_is, first_within, first_is_zero, leaf_last}
use Rattle.tree_lines.proofs.SequenceParts.{end_of, parent_of, rise_to, part_nodes, part_range, part_at, one_back, length-parts_of}
use Rattle.tree_lines.proofs.SequenceSeeking.{no_leaf_at}
use Rattle.tree_lines.proofs.SequenceWays.{parts_path, parts_are}
use Rattle.tree_lines.proofs.SequenceCuts.{split_numbers, nodes_are, cut_back, front_within, goes_down}

-- what a cursor that goes on from the sequence `next` shows
abbrev pub seen : Games → ℕ → List Part → SequencesState
seen c next parts = record { at = before c (first_of c next); ends = part_ends parts }

stands_first : (c : Games) → IsAfterSequences c 0 []
stands_first c = grind (arith, common_steps, first_within, first_is_zero)

pub kept_first : (c : Games) → IsCursorKept c 0 [] 0
kept_first c = record { after = stands_first c; count = refl }

pub seen_first : (c : Games) → seen c 0 [] ≡ record { at = record { games = c; index = 0 }; ends = [] }
seen_first c = ap (λ (at : CursorState). record { at = at; ends = [] }) (ap (before c) (first_is_zero c) ∙ starts c)

first_number : (c : Games) (parts : List Part) (d : ℕ) (part : Part) → AreParts c 0 parts → slice_get parts 0 ≡ Some part → get_or (part_numbers c parts) 0 d ≡ sequence_start c part.sequence
first_number c [] d part are e = absurd cc
first_number c (p ∷ ps) d part are e = grind (arith, common_steps, never_empty, get_or-append, length-range_with_len, get_or-range_with_len)

pub some_end : (ends : List ℕ) (count : ℕ) → RiseTo 0 ends count → 0 < length ends → 0 < count
some_end ends count rise some = omega (arith, rises_over 0 ends count rise)

pub some_ends : (ends : List ℕ) (count : ℕ) → RiseTo 0 ends count → 0 < count → 0 < length ends
some_ends [] count rise some = absurd (omega (arith, rise))
some_ends (end ∷ ends) count rise some = omega arith

module _ (c : Games) (next : ℕ) (path : List ℕ) (h : IsAfterSequences c next (parts_of c 0 path)) (state : SequencesState) (is : seen c next (parts_of c 0 path) ≡ state) where
  abbrev parts : List Part
  parts = parts_of c 0 path

  at_is : before c (first_of c next) ≡ state.at
  at_is = ap (λ (s : SequencesState). s.at) is

  ends_are : part_ends parts ≡ state.ends
  ends_are = ap (λ (s : SequencesState). s.ends) is

  pub games_are : c ≡ state.at.games
  games_are = ap (λ (at : CursorState). at.games) at_is

  -- ---- The line before the cursor.

  parts_long : length state.ends ≡ length parts
  parts_long = ap length (sym ends_are) ∙ length-map parts (λ (part : Part). part.end)

  pub as_many_parts : length state.ends ≡ length path
  as_many_parts = parts_long ∙ length-parts_of c 0 path

  pub nodes_long : length (nodes_before state.at) ≡ length (part_numbers c parts)
  nodes_long = as_many_nodes c (first_of c next) state.at at_is (part_numbers c parts) h.stands

  pub divided : RiseTo 0 state.ends (length (nodes_before state.at))
  divided = grind (arith, common_steps, nodes_long, ends_are, rise_to)

  pub few_nodes : length (nodes_before state.at) ≤ node_count state.at.games
  few_nodes = omega (arith, nodes_long, short c (first_of c next) (part_numbers c parts) h.stands, first_within c next, ap node_count games_are)

  -- a line has a part
  pub some_part : 0 < state.at.index → 0 < length state.ends
  some_part lt = search (rules, shows_line, some_ends, divided, nodes_long)

  pub part_there : (i k : ℕ) → i < length state.ends → k ≡ get_or path i k → slice_get path i ≡ Some k
  part_there i k lt e = slice_get-get_or path i k (omega (arith, as_many_parts)) ∙ ap Some (sym e)

  pub part_within_all : (i k : ℕ) → slice_get path i ≡ Some k → k < length (sequence_starts c)
  part_within_all i k e = (one_back c path i k h.are e).0

  -- the nodes of a part, and their numbers
  pub sequence_nodes : (i k : ℕ) → slice_get path i ≡ Some k
      → Some (nodes_at state.at.games (sequence_numbers state.at.games k)) ≡ slice_get (sequences_of state.ends (nodes_before state.at)) i
  sequence_nodes i k e =
      let nodes : nodes_at c (part_numbers c parts) ≡ nodes_before state.at = nodes_after c (first_of c next) state.at at_is (part_numbers c parts) h.stands 0 in
      let p = part_at c 0 path i k e in
      grind (arith, common_steps, part_nodes, games_are, ends_are)

  pub part_path : (i k : ℕ) → slice_get path i ≡ Some k
      → Some (sequence_numbers state.at.games k) ≡ slice_get (parts_from 0 state.ends (path_before state.at)) i
  part_path i k e =
      let p = part_at c 0 path i k e in
      let there = rw p.2 at (part_range c 0 parts i p.0 h.are p.1) in
      cc (at_is, path_is c (first_of c next) (part_numbers c parts) h.stands, games_are, ends_are, there)

  module _ (some : 0 < length state.ends) where
    some_nodes : 0 < length (nodes_before state.at)
    some_nodes = some_end state.ends (length (nodes_before state.at)) divided some

    line_there : 0 < state.at.index
    line_there = some_before state.at some_nodes

    shown : IsShown c (first_of c next) (part_numbers c parts)
    shown = shows_line c (first_of c next) state.at at_is (part_numbers c parts) h.stands line_there

    root : (k : ℕ) → slice_get path 0 ≡ Some k → get_or (part_numbers c parts) 0 0 ≡ sequence_start c k
    root k e = let p = part_at c 0 path 0 k e in rw p.2 at (first_number c parts 0 p.0 h.are p.1)

    pub root_is : (k : ℕ) (n : Node) → slice_get path 0 ≡ Some k → node_at c (sequence_start c k) ≡ Some n → slice_get (nodes_before state.at) 0 ≡ Some n
    root_is k n there e = node_is c (first_of c next) state.at at_is (part_numbers c parts) h.stands 0 0 n some_nodes (ap (node_at c) (root k there) ∙ e)

    -- the line before the cursor
    line_found : line_before state.at ≡ slice_get (lines c) (lines_before c (first_of c next) - 1)
    line_found = line_is state.at line_there ∙ rw (← at_is) refl

    pub game_is : (k : ℕ) → slice_get path 0 ≡ Some k
        → option_map (λ (line : Line). line.game_number) (line_before state.at) ≡ Some (game_of c (sequence_start c k))
    game_is k there =
        grind (arith, common_steps, line_at c (lines_before c (first_of c next) - 1) (record { game_number = game_of c (get_or (part_numbers c parts) 0 0); numbers = part_numbers c parts }) (shown.path_is 0), line_found, root k there)

    -- a sequence stands before the next one
    pub one_before : 1 ≤ next
    one_before = let after = shown.after in let first = first_is_zero c in elim (cases_eq next 0) [ inl none ↦ absurd (omega (arith, rw none at after)) | inr other ↦ omega arith ]

    pub last_there : next - 1 < length (sequence_starts c)
    last_there = omega (arith, one_before, h.within)

    pub place_is : (place : ℕ) → place_at c (sequence_end c (next - 1) - 1) ≡ Some place → option_map place_of (line_before state.at) ≡ Some place
    place_is place e = search (rules, one_before, line_found, shown)

  -- ---- The next line.

  pub no_more : HasNoLeaf c (first_of c next) (node_count c) → slice_get (lines state.at.games) state.at.index ≡ None
  no_more none = none_is_left c (first_of c next) state.at at_is none

  pub no_nodes : HasNoLeaf c (first_of c next) (node_count c) → 0 ≡ length (nodes_before (advanced state.at))
  no_nodes none = let one : state.at.index + 1 ≡ suc state.at.index = add-one state.at.index in sym (ap (λ i. length (nodes_of (line_in state.at.games i))) one ∙ ap (λ o. length (nodes_of o)) (no_more none))

  module _ (leaf : ℕ) (outer : Option ℕ) (front : Front) (n : IsNextEnd c next leaf) (above : IsAbove c next outer) (cut : IsFrontUpTo parts outer front) where
    abbrev parent : Option ℕ
    parent = end_of c outer

    next_there : next < length (sequence_starts c)
    next_there = omega (arith, n.from_there, n.within)

    abbrev leaf_node : ℕ
    leaf_node = sequence_end c leaf - 1

    after_leaf : leaf_node + 1 ≡ first_of c (leaf + 1)
    after_leaf = omega (arith, never_empty c leaf n.within)

    next_leaf : IsNextLeaf c (first_of c next) leaf_node
    next_leaf =
        grind (arith, common_steps, first_no_less c next leaf n.from_there next_there, next_there, start_is c leaf n.within, never_empty c leaf n.within, after_leaf, first_within c (leaf + 1))

    parent_there : parent_at c (first_of c next) ≡ Some parent
    parent_there = rw (start_is c next next_there) at (parent_of c next outer above)

    node_cut : IsCutBack (part_numbers c parts) parent front.nodes
    node_cut = grind (arith, common_steps, cut_back, next_there)

    pub front_before : front.nodes ≤ first_of c next
    front_before =
        omega (
          arith,
          kept_within c (first_of c next) (part_numbers c parts) h.stands leaf_node parent front.nodes next_leaf parent_there node_cut,
          short c (first_of c next) (part_numbers c parts) h.stands,
        )

    -- how many nodes it has
    pub next_long : (first end : ℕ) → first ≡ sequence_start c next → end ≡ sequence_end c leaf → front.nodes + (end - first) ≡ length (nodes_before (advanced state.at))
    next_long first end first_is end_is =
        let range = range_with_len (first_of c next) (leaf_node + 1 - first_of c next) in
        let numbers = take front.nodes (part_numbers c parts) ++ range in
        let after = stands_next c (first_of c next) (part_numbers c parts) h.stands leaf_node parent front.nodes next_leaf parent_there node_cut numbers refl in
        let within = kept_within c (first_of c next) (part_numbers c parts) h.stands leaf_node parent front.nodes next_leaf parent_there node_cut in
        omega (
          arith,
          first_is,
          end_is,
          start_is c next next_there,
          never_empty c leaf n.within,
          as_many_nodes c (leaf_node + 1) (advanced state.at) (advances c (first_of c next) state.at at_is leaf_node next_leaf) numbers after,
          length-append (take front.nodes (part_numbers c parts)) range,
          length-take-le front.nodes (part_numbers c parts) within,
          length-range_with_len (first_of c next) (leaf_node + 1 - first_of c next),
        )

    -- its nodes end after the first one
    pub next_rises : sequence_start c next ≤ sequence_end c leaf
    next_rises = grind (arith, common_steps, start_is, next_there, next_leaf, never_empty)

    pub moved : before c (first_of c (leaf + 1)) ≡ advanced state.at
    moved = ap (before c) (sym after_leaf) ∙ advances c (first_of c next) state.at at_is leaf_node next_leaf

    -- the front is one of the path
    pub front_kept : front.sequences ≤ length path
    front_kept = omega (arith, (front_within c parts h.are outer front cut).0, length-parts_of c 0 path)

    -- there are no more of its nodes than of all
    pub next_few : (first end : ℕ) → first ≡ sequence_start c next → end ≡ sequence_end c leaf → front.nodes + (end - first) ≤ node_count c
    next_few first end first_is end_is =
        omega (arith, first_is, end_is, front_before, start_is c next next_there, next_rises, never_empty c leaf n.within, after_leaf, first_within c (leaf + 1))

    module _ (new : List Part) (down : GoesDown c parts front.sequences next (leaf + 1) new) where
      numbers_made : part_numbers c new ≡ take front.nodes (part_numbers c parts) ++ range_with_len (first_of c next) (leaf_node + 1 - first_of c next)
      numbers_made =
          grind (arith, common_steps, front_within c parts h.are outer front cut, nodes_are, split_numbers c front.sequences parts, take-append_seam, after_leaf)

      stands_there : IsAfterLeaf c (leaf_node + 1) (part_numbers c new)
      stands_there = stands_next c (first_of c next) (part_numbers c parts) h.stands leaf_node parent front.nodes next_leaf parent_there node_cut (part_numbers c new) numbers_made

      stands_further : IsAfterSequences c (leaf + 1) new
      stands_further = grind (arith, common_steps, after_leaf, stands_there)

      nodes_made : (first end : ℕ) → first ≡ sequence_start c next → end ≡ sequence_end c leaf → front.nodes + (end - first) ≡ length (part_numbers c new)
      nodes_made first end first_is end_is = search (rules, next_long, as_many_nodes, advances, at_is, next_leaf, stands_there)

      continued : Continues (path_before state.at) front.nodes (path_before (before c (leaf_node + 1)))
      continued = search (rules, shares, at_is, continues_made, next_leaf, parent_there, node_cut, numbers_made, stands_there)

      pub shares_front : SharesFront state (seen c (leaf + 1) new) front
      shares_front = grind (arith, common_steps, front_within, before, after_leaf, continued, parts_long, take-map, ends_are, length-map)

    -- the path that is made
    module _ (made : List ℕ) (made_is : made ≡ take front.sequences path ++ range_with_len next (leaf + 1 - next)) where
      pub goes_on : GoesDown c parts front.sequences next (leaf + 1) (parts_of c 0 made)
      goes_on =
          let end : next + (leaf + 1 - next) ≡ leaf + 1 = omega (arith, n.from_there) in
          rw made_is (rw end at (goes_down c path front.sequences next (leaf + 1 - next) h.are front_kept (omega (arith, end, n.within))))

      pub kept_further : (first end : ℕ) → first ≡ sequence_start c next → end ≡ sequence_end c leaf → IsCursorKept c (leaf + 1) made (front.nodes + (end - first))
      kept_further first end first_is end_is = search (rules, stands_further, goes_on, nodes_made)

  -- ---- The line that ends in a leaf.

  pub no_such_line : (place sequence : ℕ) → PlacesRise c → IsFirstFrom c place sequence
      → (sequence < length (sequence_starts c) → IsLeaf c (sequence_end c sequence - 1) → place_at c (sequence_end c sequence - 1) ≢ Some place) → HasNoLineAt state.at.games place
  no_such_line place sequence rise first other = rw (← games_are) (no_line c place (no_leaf_at c place sequence rise first other))

  pub found : (sequence place : ℕ) → sequence < length (sequence_starts c) → IsLeaf c (sequence_end c sequence - 1) → place_at c (sequence_end c sequence - 1) ≡ Some place
      → IsAfterPlace place state.at (before state.at.games (sequence_end state.at.games sequence))
  found sequence place lt is_leaf placed =
      let some = never_empty c sequence lt in
      grind (arith, common_steps, before, games_are, sought, first_within)

  -- a leaf is the last node of its sequence
  pub leaf_ends : (leaf sequence : ℕ) → sequence < length (sequence_starts c) → sequence_start c sequence ≤ leaf → leaf < sequence_end c sequence → IsLeaf state.at.games leaf
      → leaf + 1 ≡ sequence_end state.at.games sequence
  leaf_ends leaf sequence within start end is_leaf =
      leaf_last c leaf sequence (record { within = within; start = start; end = end }) (rw (← games_are) at is_leaf) ∙ ap (λ games. sequence_end games sequence) games_are

  module _ (sequence : ℕ) (new : List Part) (there : sequence < length (sequence_starts state.at.games)) (is_leaf : IsLeaf state.at.games (sequence_end state.at.games sequence - 1))
      (way : ArePartsTo c (Some sequence) new) where
    lt : sequence < length (sequence_starts c)
    lt = rw (← games_are) at there

    stands_sought : IsAfterSequences c (sequence + 1) new
    stands_sought = search (rules, never_empty, lt, stands_after, first_within, games_are, parts_path, parts_are)

  pub kept_sought : (sequence nodes : ℕ) (new : List ℕ) → sequence < length (sequence_starts state.at.games) → IsLeaf state.at.games (sequence_end state.at.games sequence - 1)
      → IsWayTo c sequence new nodes → IsCursorKept c (sequence + 1) new nodes
  kept_sought sequence nodes new there is_leaf way = record { after = stands_sought sequence (parts_of c 0 new) there is_leaf way.0; count = way.1 }
