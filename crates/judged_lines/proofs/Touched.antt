-- The places of nodes on lines, each once. A line adds the places that it doesn't share with the line before it, since these rise from that of the first node
-- after that line. So the places on all lines are those of all nodes, and no more nodes are judged than there are.
use Rattle.std.specs.List.{range_with_len, IsDistinct, drop-map}
use Rattle.std.specs.Set.{is_member}
use Rattle.std.proofs.Math.Bool.{or-true}
use Rattle.std.proofs.lemmas.Cmp.{nat_eq_equiv}
use Rattle.judged_lines.proofs.Common.{cases_Bool, cases_lt, cases_eq, flat_map-append, common_steps, map-append, take-map, length-map, filter-append, filter_passes, All-filter, All-from_recursion, recursion_from_All, slice_get_within, OrderedNode, ordered_nodes, node_at, place_at, PlacesRise, Node, Games, node_count, first_after, Continues, numbers_before, nodes_of, Line, lines, last_number, paths, game_kind, root_properties, differ, different, places_of, node_places, touched_places, judged_places, all_judged_places, ◌≡◌, ℕ, ◌+◌, ◌-◌, ◌<◌, ◌≤◌, Bool, true, false, List, [], ◌∷◌, ◌++◌, inl, inr, refl, sym, ap, ◌∙◌, arith, zero, suc, length, map, slice_get, Some, None, unwrap_or, append_assoc, append-nil, length-append, take, drop, rules, filter, ◌||◌, if◌then◌else◌, flat_map, eqb, ne_eqb, eqb-true, eq-eqb, take-append-drop, length-take-le, take_all, list_any-append, drop-append_seam, place_of_node, length-paths, named_in, as_many}
use Rattle.std.proofs.lemmas.Map.Made.{All-is_member, is_member-filter, length-le_from_is_member}
use Rattle.std.proofs.lemmas.Map.Keys.{IsDistinct-cons, IsDistinct-head, IsDistinct-tail}
use Rattle.sgf_outline.proofs.Lists.{slice_get-right}
use Rattle.sgf_outline.proofs.OrderedNodes.{length-nodes_from, length-ordered_nodes}
use Rattle.sgf_outline.proofs.Rises.{Rises, rises-ends}
use Rattle.tree_lines.proofs.Lists.{Each, each_weaker, each_append, each_take, element, range_append}
use Rattle.tree_lines.proofs.Visits.{way_within, way_rises, rises_parts, leads, after_way, last_number-append, continues, goes_on_there, last_end}
use Rattle.judged_lines.proofs.Keeping.{same_front}
use Rattle.judged_lines.proofs.Lists.{more_texts}
use Rattle.judged_lines.proofs.Walking.{judged_front, judged_alike}

-- whether a number stands in a list
abbrev pub has : List ℕ → ℕ → Bool
has xs n = is_member eqb xs n

has_left : (xs ys : List ℕ) (n : ℕ) → has xs n ≡ true → has (xs ++ ys) n ≡ true
has_left xs ys n h = list_any-append (eqb n) xs ys ∙ ap (λ b. b || has ys n) h

has_right : (xs ys : List ℕ) (n : ℕ) → has ys n ≡ true → has (xs ++ ys) n ≡ true
has_right xs ys n h = list_any-append (eqb n) xs ys ∙ ap (λ b. has xs n || b) h ∙ or-true (has xs n)

each_has : (xs : List ℕ) → Each (λ n. has xs n ≡ true) xs
each_has xs = recursion_from_All (λ n. has xs n ≡ true) xs (All-is_member nat_eq_equiv xs)

-- what holds of each number of a list holds of one that stands in it
holds_of : (P : ℕ → Type 0) (xs : List ℕ) (n : ℕ) → Each P xs → has xs n ≡ true → P n
holds_of P [] n h e = absurd cc
holds_of P (x ∷ xs) n h e = elim (cases_eq n x) [ inl same ↦ rw same h.0 | inr other ↦ holds_of P xs n h.1 (rw (ne_eqb n x other) at e) ]

-- greater numbers don't stand in it
not_there : (xs : List ℕ) (n : ℕ) → Each (λ x. x < n) xs → has xs n ≡ false
not_there [] n h = refl
not_there (x ∷ xs) n h = rw (ne_eqb n x (λ e. omega (arith, h.0))) (not_there xs n h.1)

-- one number more
different_more : (xs : List ℕ) (n : ℕ) → different (xs ++ n ∷ []) ≡ different xs ++ (if has xs n then [] else n ∷ [])
different_more [] n = refl
different_more (x ∷ xs) n = grind (arith, common_steps, (different_more xs n), filter-append, eqb, or-true, cases_eq, eq-eqb, ne_eqb)

-- numbers that stand there already add nothing
nothing_more : (xs ys : List ℕ) → Each (λ n. has xs n ≡ true) ys → different (xs ++ ys) ≡ different xs
nothing_more xs [] h = ap different (append-nil xs)
nothing_more xs (y ∷ ys) h =
    search (rules, append_assoc, each_weaker, has, has_left, different_more, append-nil, (nothing_more (xs ++ y ∷ []) ys (each_weaker (λ n. has xs n ≡ true) (λ n. has (xs ++ y ∷ []) n ≡ true) (λ n. has_left xs (y ∷ []) n) ys h.1)))

-- numbers that rise strictly from `low` on
abbrev pub RisesFrom : ℕ → List ℕ → Type 0
RisesFrom low [] = Unit {0}
RisesFrom low (n ∷ ns) = (low ≤ n) × RisesFrom (n + 1) ns

rises_take : (low k : ℕ) (ns : List ℕ) → RisesFrom low ns → RisesFrom low (take k ns)
rises_take low zero ns h = tt
rises_take low (suc k) [] h = tt
rises_take low (suc k) (n ∷ ns) h = (h.0, rises_take (n + 1) k ns h.1)

-- greater ones that rise are all added
all_more : (xs ys : List ℕ) (low : ℕ) → Each (λ x. x < low) xs → RisesFrom low ys → different (xs ++ ys) ≡ different xs ++ ys
all_more xs [] low below rise = ap different (append-nil xs) ∙ sym (append-nil (different xs))
all_more xs (y ∷ ys) low below rise =
    let less : Each (λ x. x < y) xs = each_weaker (λ x. x < low) (λ x. x < y) (λ x lt. omega (arith, rise.0)) xs below in
    ap different (sym (append_assoc xs (y ∷ []) ys))
    ∙ all_more (xs ++ y ∷ []) ys (y + 1) (each_append (λ x. x < y + 1) xs (y ∷ []) (each_weaker (λ x. x < y) (λ x. x < y + 1) (λ x lt. omega arith) xs less) (omega arith, tt)) rise.1
    ∙ ap (λ l. l ++ ys) (different_more xs y ∙ rw (not_there xs y less) refl) ∙ append_assoc (different xs) (y ∷ []) ys

-- numbers that stand there already, and then greater ones: only these are more
more_different : (xs old fresh : List ℕ) (low : ℕ) → Each (λ n. has xs n ≡ true) old → Each (λ x. x < low) xs → RisesFrom low fresh
    → different (xs ++ (old ++ fresh)) ≡ different xs ++ fresh
more_different xs old fresh low there below rise = grind (arith, common_steps, each_weaker, holds_of, append_assoc, all_more, each_append, nothing_more)

-- ---- There are no more different numbers in a list than in one that has each of them.

distinct_filter : (p : ℕ → Bool) (l : List ℕ) → IsDistinct eqb l → IsDistinct eqb (filter p l)
distinct_filter p [] h = h
distinct_filter p (n ∷ l) h =
    let rest = distinct_filter p l (IsDistinct-tail eqb n l h) in
    let apart = recursion_from_All (λ m. eqb n m ≡ false) (filter p l) (All-filter p (λ m. eqb n m ≡ false) l (All-from_recursion (λ m. eqb n m ≡ false) l (IsDistinct-head eqb n l h))) in
    elim (cases_Bool (p n)) [ inl holds ↦ rw holds (IsDistinct-cons eqb n (filter p l) apart rest) | inr fails ↦ rw fails rest ]

distinct_different : (l : List ℕ) → IsDistinct eqb (different l)
unfolding IsDistinct
distinct_different [] = tt
distinct_different (n ∷ l) = grind (arith, common_steps, recursion_from_All, eqb, cases_Bool, filter_passes, distinct_filter, (distinct_different l))

has-different : (l : List ℕ) (q : ℕ) → has (different l) q ≡ has l q
has-different [] q = refl
has-different (n ∷ l) q =
    let left = is_member-filter nat_eq_equiv (differ n) q (λ x e. ap (differ n) (eqb-true q x e)) (different l) in
    grind (arith, common_steps, (has-different l q), cases_eq, eq-eqb, ne_eqb)

fewer_different : (xs ys : List ℕ) → Each (λ n. has ys n ≡ true) xs → length (different xs) ≤ length (different ys)
fewer_different xs ys h = grind (arith, common_steps, length-le_from_is_member, nat_eq_equiv, distinct_different, has-different, holds_of)

-- no more in a front
pub fewer_in_front : (xs ys : List ℕ) → length (different xs) ≤ length (different (xs ++ ys))
fewer_in_front xs ys = fewer_different xs (xs ++ ys) (each_weaker (λ n. has xs n ≡ true) (λ n. has (xs ++ ys) n ≡ true) (λ n. has_left xs ys n) xs (each_has xs))

-- ---- Numbers that rise.

range_rises : (at n : ℕ) → Rises at (range_with_len at n) (at + n)
range_rises at zero = omega arith
range_rises at (suc n) = let sum : at + 1 + n ≡ at + suc n = omega arith in (omega arith, rw sum at (range_rises (at + 1) n))

drop-take_less : {A : Type 0} (k m : ℕ) (xs : List A) → drop k (take m xs) ≡ take (m - k) (drop k xs)
drop-take_less zero m xs = let same : m - 0 ≡ m = omega arith in rw same refl
drop-take_less (suc k) zero xs = let none : 0 - suc k ≡ 0 = omega arith in rw none refl
drop-take_less (suc k) (suc m) [] = grind (arith, common_steps)
drop-take_less (suc k) (suc m) (x ∷ xs) = let less : suc m - suc k ≡ m - k = omega arith in rw less (drop-take_less k m xs)

-- the last number of a range after others
last_number-range : (front : List ℕ) (start more : ℕ) → last_number (front ++ range_with_len start (suc more)) ≡ start + more
last_number-range front start zero = last_number-append front start [] ∙ omega arith
last_number-range front start (suc more) = last_number-append front start (range_with_len (start + 1) (suc more)) ∙ last_number-range [] (start + 1) more ∙ omega arith

-- the first node after the new path
pub after_is : (old new : List ℕ) (kept : ℕ) (h : Continues old kept new) → first_after new ≡ first_after old + (h.more + 1)
after_is old new kept h = ap first_after h.new_is ∙ by (take kept old) (first_after old) h.more
  where
    by : (front : List ℕ) (next more : ℕ) → first_after (front ++ range_with_len next (more + 1)) ≡ next + (more + 1)
    by [] next more = let one : more + 1 ≡ suc more = omega arith in rw one (ap (λ n. n + 1) (last_number-range [] next more) ∙ omega arith)
    by (n ∷ ns) next more = let one : more + 1 ≡ suc more = omega arith in rw one (ap (λ n. n + 1) (last_number-range (n ∷ ns) next more) ∙ omega arith)

-- the nodes after the kept ones
after_kept : (old new : List ℕ) (kept : ℕ) (h : Continues old kept new) → drop kept new ≡ range_with_len (first_after old) (h.more + 1)
after_kept old new kept h = grind (arith, common_steps, length-take-le, drop-append_seam)

-- the place of a node, by its number
abbrev pub place_number : Games → ℕ → ℕ
place_number c i = unwrap_or (place_at c i) 0

module _ (c : Games) where
  pub place_is : (i : ℕ) → i < node_count c → place_at c i ≡ Some (place_number c i)
  place_is i lt = grind (arith, common_steps, element (ordered_nodes c) i (omega (arith, length-nodes_from 0 None c)), length-nodes_from 0 None c)

  pub places_named : (ns : List Node) (is : List ℕ) → map Some ns ≡ map (node_at c) is → places_of ns ≡ map (place_number c) is
  places_named [] [] e = refl
  places_named [] (i ∷ is) e = absurd cc
  places_named (n ∷ ns) [] e = absurd cc
  places_named (n ∷ ns) (i ∷ is) e = grind (arith, common_steps, place_of_node, places_named ns is (cc))

  places_range : (before rest : List OrderedNode) → ordered_nodes c ≡ before ++ rest → map (place_number c) (range_with_len (length before) (length rest)) ≡ map (λ r. r.node.place) rest
  places_range before [] e = refl
  places_range before (r ∷ rest) e =
      cc (slice_get-right before (r ∷ rest) (length before) 0 (omega arith), length-append before (r ∷ []), places_range (before ++ r ∷ []) rest (e ∙ sym (append_assoc before (r ∷ []) rest)), append_assoc before (r ∷ []) rest)

  -- a place of a node before `end`
  abbrev pub IsPlaceBefore : ℕ → ℕ → Type 0
  IsPlaceBefore end x = (i : ℕ) × (i < end) × (x ≡ place_number c i)

  pub before_later : (a b : ℕ) → a ≤ b → (xs : List ℕ) → Each (IsPlaceBefore a) xs → Each (IsPlaceBefore b) xs
  before_later a b le xs h = each_weaker (IsPlaceBefore a) (IsPlaceBefore b) (λ x w. (w.0, omega (arith, w.1), w.2)) xs h

  pub all_places : map (place_number c) (range_with_len 0 (node_count c)) ≡ node_places c
  all_places = let count = length-nodes_from 0 None c in rw (← count) (places_range [] (ordered_nodes c) refl)

  module _ (rise : PlacesRise c) where
    pub places_rise : (i j : ℕ) → i < j → j < node_count c → place_number c i < place_number c j
    places_rise i j lt within = rise i j (place_number c i) (place_number c j) lt (place_is i (omega arith)) (place_is j within)

    -- they are less than that of the next node
    pub places_below : (next : ℕ) (xs : List ℕ) → next < node_count c → Each (IsPlaceBefore next) xs → Each (λ x. x < place_number c next) xs
    places_below next xs lt h = each_weaker (IsPlaceBefore next) (λ x. x < place_number c next) (λ x w. omega (arith, w.2, places_rise w.0 next w.1 lt)) xs h

    -- those of nodes that rise
    places_from : (from low to : ℕ) (ns : List ℕ) → Rises from ns to → to ≤ node_count c → (from < node_count c → low ≤ place_number c from) → RisesFrom low (map (place_number c) ns)
    places_from from low to [] r le first = tt
    places_from from low to (n ∷ ns) r le first =
        let within : n < node_count c = omega (arith, rises-ends (n + 1) to ns r.1) in (
          elim (cases_lt from n) [
            | inl lt ↦ omega (arith, first (omega arith), places_rise from n lt within)
            | inr ge ↦ let same : from ≡ n = omega (arith, r.0) in rw same at first within
          ],
          places_from (n + 1) (place_number c n + 1) to ns r.1 le (λ lt. omega (arith, places_rise n (n + 1) (omega arith) lt)),
        )

  pub within_below : (next : ℕ) (is : List ℕ) → Each (λ i. i < next) is → Each (IsPlaceBefore next) (map (place_number c) is)
  within_below next [] h = tt
  within_below next (i ∷ is) h = ((i, h.0, refl), within_below next is h.1)

  -- ---- The paths, one after the other.

  -- each continues the one before it
  pub continues_there : (k : ℕ) → k < length (paths c) → (kept : ℕ) × Continues (numbers_before c k) kept (numbers_before c (suc k))
  continues_there k lt = continues (goes_on_there c k lt) refl

  -- their nodes rise, up to the first one after them
  rising : (k : ℕ) → k ≤ length (paths c) → Rises 0 (numbers_before c k) (first_after (numbers_before c k)) × (first_after (numbers_before c k) ≤ node_count c)
  rising zero le = (omega arith, omega arith)
  rising (suc k) le =
      let q = element (paths c) k (omega arith) in
      grind (arith, common_steps, leads c k q.0 q.1, after_way, way_rises, way_within)

  on_path : (k : ℕ) (line : Line) → slice_get (lines c) k ≡ Some line → suc k ≤ length (paths c)
  on_path k line e = omega (arith, slice_get_within (lines c) k line e, length-paths c)

  -- how many nodes a line of a page shares with the line before it; the page begins with the line at the index `first`
  abbrev pub SharesAfter : ℕ → ℕ → ℕ → Type 0
  SharesAfter first zero shared = shared ≡ 0
  SharesAfter first (suc k) shared = Continues (numbers_before c (first + suc k)) shared (numbers_before c (suc (first + suc k)))

  -- Some places of each line are chosen, those of its first nodes. What lines share is chosen alike.
  module _ (rise : PlacesRise c) (chosen : Line → List ℕ) (front : (line : Line) → (m : ℕ) × (chosen line ≡ take m (places_of line.nodes)))
      (alike : (last line : Line) (k : ℕ) → k ≤ length last.nodes → take k last.nodes ≡ take k line.nodes → take k (chosen line) ≡ take k (chosen last))
      (first : ℕ) (page : List Line) (stands : (k : ℕ) (line : Line) → slice_get page k ≡ Some line → slice_get (lines c) (first + k) ≡ Some line) where
    abbrev pub so_far : ℕ → List ℕ
    so_far k = flat_map chosen (take k page)

    named : (k : ℕ) (line : Line) → slice_get page k ≡ Some line → map Some line.nodes ≡ map (node_at c) (numbers_before c (suc (first + k)))
    named k line e = ap (λ o. map Some (nodes_of o)) (sym (stands k line e)) ∙ named_in c (suc (first + k))

    chosen_are : (k : ℕ) (line : Line) → slice_get page k ≡ Some line → (m : ℕ) × (chosen line ≡ take m (map (place_number c) (numbers_before c (suc (first + k)))))
    chosen_are k line e = let f = front line in (f.0, f.1 ∙ ap (take f.0) (places_named line.nodes (numbers_before c (suc (first + k))) (named k line e)))

    -- they all come before the node after the last of these lines
    all_before : (k : ℕ) → k ≤ length page → Each (IsPlaceBefore (first_after (numbers_before c (first + k)))) (so_far k)
    all_before zero le = tt
    all_before (suc k) le =
        let l = element page k (omega arith) in
        let numbers = numbers_before c (suc (first + k)) in
        let lt = on_path (first + k) l.0 (stands k l.0 l.1) in
        let next : first + suc k ≡ suc (first + k) = omega arith in
        let end = first_after numbers in
        let go = continues_there (first + k) (omega (arith, lt)) in
        let later : first_after (numbers_before c (first + k)) ≤ end = omega (arith, after_is (numbers_before c (first + k)) numbers go.0 go.1) in
        let are = chosen_are k l.0 l.1 in
        let own : Each (IsPlaceBefore end) (chosen l.0) = rw are.1 (each_take (IsPlaceBefore end) are.0 (map (place_number c) numbers) (within_below end numbers (rises_parts 0 numbers end (rising (suc (first + k)) lt).0).0)) in
        rw (next, ← more_texts chosen page k l.0 l.1)
        (each_append (IsPlaceBefore end) (so_far k) (chosen l.0) (before_later (first_after (numbers_before c (first + k))) end later (so_far k) (all_before k (omega arith))) own)

    adds_by : (k shared from low to : ℕ) (line : Line) → slice_get page k ≡ Some line → Rises from (drop shared (numbers_before c (suc (first + k)))) to → to ≤ node_count c
        → (from < node_count c → low ≤ place_number c from) → Each (λ x. x < low) (so_far k) → Each (λ n. has (so_far k) n ≡ true) (take shared (chosen line))
        → different (so_far (suc k)) ≡ different (so_far k) ++ drop shared (chosen line)
    adds_by k shared from low to line e rises within first_is below there =
        grind (arith, common_steps, chosen_are k line e, drop-take_less, drop-map, rises_take, places_from, more_texts chosen page k line e, take-append-drop shared (chosen line), more_different)

    -- a line adds those that it doesn't share with the line before it
    pub adds_fresh : (k shared : ℕ) (line : Line) → slice_get page k ≡ Some line → SharesAfter first k shared → different (so_far (suc k)) ≡ different (so_far k) ++ drop shared (chosen line)
    adds_fresh zero shared line e none =
        let r = rising (suc (first + 0)) (on_path (first + 0) line (stands 0 line e)) in
        adds_by 0 shared 0 0 (first_after (numbers_before c (suc (first + 0)))) line e (rw none r.0) r.1 (λ lt. omega arith) tt (rw none tt)
    adds_fresh (suc k) shared line e go =
        let next : first + suc k ≡ suc (first + k) = omega arith in
        let old = numbers_before c (first + suc k) in
        let new = numbers_before c (suc (first + suc k)) in
        let from = first_after old in
        let within = (rising (suc (first + suc k)) (on_path (first + suc k) line (stands (suc k) line e))).1 in
        let end = after_is old new shared go in
        let l = element page k (omega (arith, slice_get_within page (suc k) line e)) in
        let old_named : map Some l.0.nodes ≡ map (node_at c) old = rw next (named k l.0 l.1) in
        let kept : take shared l.0.nodes ≡ take shared line.nodes = same_front (node_at c) old new l.0.nodes line.nodes shared old_named (named (suc k) line e) go in
        let same = alike l.0 line shared (omega (arith, as_many (node_at c) l.0.nodes old old_named, go.kept_within)) kept in
        let there = each_take (λ n. has (so_far (suc k)) n ≡ true) shared (chosen l.0)
        (rw (← more_texts chosen page k l.0 l.1) (each_weaker (λ n. has (chosen l.0) n ≡ true) (λ n. has (so_far k ++ chosen l.0) n ≡ true) (λ n. has_right (so_far k) (chosen l.0) n) (chosen l.0) (each_has (chosen l.0)))) in
        adds_by (suc k) shared from (place_number c from) (from + (go.more + 1)) line e (rw (after_kept old new shared go) (range_rises from (go.more + 1))) (omega arith) (λ lt. omega arith)
        (places_below rise from (so_far (suc k)) (omega arith) (all_before (suc k) (omega (arith, slice_get_within page (suc k) line e)))) (rw same there)

  -- ---- All nodes stand on lines.

  module _ (rise : PlacesRise c) where
    abbrev all_places_of : Line → List ℕ
    all_places_of line = places_of line.nodes

    alike_places : (last line : Line) (k : ℕ) → k ≤ length last.nodes → take k last.nodes ≡ take k line.nodes → take k (places_of line.nodes) ≡ take k (places_of last.nodes)
    alike_places last line k le e = take-map (λ n. n.place) k line.nodes ∙ ap places_of (sym e) ∙ sym (take-map (λ n. n.place) k last.nodes)

    first_places : (line : Line) → (m : ℕ) × (places_of line.nodes ≡ take m (places_of line.nodes))
    first_places line = (length (places_of line.nodes), sym (take_all (length (places_of line.nodes)) (places_of line.nodes) (omega arith)))

    touched_to : (k : ℕ) → k ≤ length (lines c) → different (flat_map all_places_of (take k (lines c))) ≡ map (place_number c) (range_with_len 0 (first_after (numbers_before c k)))
    touched_to zero le = refl
    touched_to (suc k) le =
        let l = element (lines c) k (omega arith) in
        let old = numbers_before c k in
        let new = numbers_before c (suc k) in
        let go = continues_there k (omega (arith, length-paths c)) in
        let named : map Some l.0.nodes ≡ map (node_at c) new = ap (λ o. map Some (nodes_of o)) (sym l.1) ∙ named_in c (suc k) in
        let fresh : drop go.0 (places_of l.0.nodes) ≡ map (place_number c) (range_with_len (first_after old) (go.1.more + 1)) =
        ap (drop go.0) (places_named l.0.nodes new named) ∙ drop-map (place_number c) go.0 new ∙ ap (map (place_number c)) (after_kept old new go.0 go.1) in
        let zero_first : 0 + first_after old ≡ first_after old = omega arith in
        let joined = rw zero_first at (range_append 0 (first_after old) (go.1.more + 1)) in
        adds_fresh rise all_places_of first_places alike_places 0 (lines c) (λ j line e. (let same : 0 + j ≡ j = omega arith in rw same e)) k go.0 l.0 l.1 (shares_all k go.0 go.1)
        ∙ ap (λ ns. ns ++ drop go.0 (places_of l.0.nodes)) (touched_to k (omega arith)) ∙ ap (λ ns. map (place_number c) (range_with_len 0 (first_after old)) ++ ns) fresh
        ∙ sym (map-append (place_number c) (range_with_len 0 (first_after old)) (range_with_len (first_after old) (go.1.more + 1))) ∙ ap (map (place_number c)) joined
        ∙ ap (λ n. map (place_number c) (range_with_len 0 n)) (sym (after_is old new go.0 go.1))
      where
        shares_all : (k kept : ℕ) → Continues (numbers_before c k) kept (numbers_before c (suc k)) → SharesAfter 0 k kept
        shares_all zero kept h = omega (arith, h.kept_within)
        shares_all (suc k) kept h = let same : 0 + suc k ≡ suc k = omega arith in rw same h

    pub touched_all : touched_places (lines c) ≡ node_places c
    touched_all = cc (length-paths c, take_all (length (lines c)) (lines c) (omega arith), touched_to (length (lines c)) (omega arith), last_end c, all_places)

-- ---- The nodes that are judged on lines stand on them.

pub judged_first : (line : Line) → (m : ℕ) × (judged_places line ≡ take m (places_of line.nodes))
judged_first line = let f = judged_front (game_kind (root_properties line.nodes)) line.nodes in (f.0, ap places_of f.1 ∙ sym (take-map (λ n. n.place) f.0 line.nodes))

pub judged_shared : (last line : Line) (k : ℕ) → k ≤ length last.nodes → take k last.nodes ≡ take k line.nodes → take k (judged_places line) ≡ take k (judged_places last)
judged_shared last line k le e = grind (arith, common_steps, take-map, judged_alike last.nodes line.nodes k le e)

judged_there : (line : Line) → Each (λ n. has (places_of line.nodes) n ≡ true) (judged_places line)
judged_there line = grind (arith, common_steps, judged_first line, each_take, each_has (places_of line.nodes))

-- the places of the nodes of lines
abbrev places_in : List Line → List ℕ
places_in ls = flat_map (λ line. places_of line.nodes) ls

all_there : (ls : List Line) → Each (λ n. has (places_in ls) n ≡ true) (flat_map judged_places ls)
all_there [] = tt
all_there (line ∷ ls) = grind (arith, common_steps, each_append, each_weaker, has_left, judged_there, has_right, (all_there ls))

pub judged_touched : (ls : List Line) → length (all_judged_places ls) ≤ length (touched_places ls)
judged_touched ls = fewer_different (flat_map judged_places ls) (places_in ls) (all_there ls)

-- and no more are judged than the collection has
pub judged_few : (c : Games) → PlacesRise c → (before ls after : List Line) → lines c ≡ before ++ (ls ++ after) → length (all_judged_places ls) ≤ node_count c
judged_few c rise before ls after is = grind (arith, common_steps, all_there ls, touched_all c rise, length-ordered_nodes c, flat_map-append, each_weaker, has_right, has_left, fewer_different, length-map)
