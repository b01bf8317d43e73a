-- The nodes of a collection are visited in file order. Each path leads to a leaf, and keeps a front of the path before it.
use Rattle.tree_lines.proofs.Common.{◌≡◌, ℕ, ◌+◌, ◌<◌, ◌≤◌, List, [], ◌∷◌, ◌++◌, length, Option, Some, None, refl, sym, ap, ◌∙◌, arith, length-append, suc, slice_get, option_map, true, add-zero, append_assoc, append-nil, ◌≢◌, zero, ◌-◌, map, inl, inr, All, add-one, rules, range_with_len, take-append_seam, cases_eq, cases_lt, common_steps, map-append, length-map, slice_get-map, parent_at, OrderedNode, further_nodes, nodes_from, ordered_nodes, IsLeaf, Games, node_count, Node, game, no_games, first_after, Continues, numbers_before, last_number, through, node_lines, lines_from, numbered_nodes, numbered, path_of, paths, Path, leaf_of, EndsInLeaf, IsPathTo, HasNoLeaf, slice_get-left, slice_get-right, parent_at-lt, parent_at-within, length-ordered_nodes, length-further_nodes, length-nodes_from, parent_in-further, next-child, Rises, rises-append}
use Rattle.tree_lines.specs.inner.PathTo.{top, step}
use Rattle.tree_lines.proofs.Lists.{Each, range_append, map-through, each_weaker, each_get, element}
use mathlib.Core.List.{map-id, map-map}

pub last_number-append : (ns : List ℕ) (m : ℕ) (ms : List ℕ) → last_number (ns ++ m ∷ ms) ≡ last_number (m ∷ ms)
last_number-append [] m ms = refl
last_number-append (n ∷ []) m ms = refl
last_number-append (n ∷ k ∷ ks) m ms = last_number-append (k ∷ ks) m ms

pub node_within : (c : Games) (j : ℕ) (p : Option ℕ) → parent_at c j ≡ Some p → j < node_count c
node_within c j p e = omega (arith, parent_at-within c j p e, length-ordered_nodes c)

-- above the root no node of the way is left
pub none_above : {c : Games} {way : List ℕ} → IsPathTo c None way → way ≡ []
none_above top = refl

-- the way to a node is that to its parent, and the node
pub above_of : {c : Games} {n : ℕ} {parent : Option ℕ} {way : List ℕ} → IsPathTo c (Some n) way → parent_at c n ≡ Some parent
    → (above : List ℕ) × IsPathTo c parent above × (way ≡ above ++ n ∷ [])
above_of {parent = q} (step {parent = p} {above = above} e up is) f = let same : p ≡ q = cc in (above, rw same at up, is)

-- a node has but one way, and ends it
pub one_way : {c : Games} {at : Option ℕ} {ns ms : List ℕ} → IsPathTo c at ns → IsPathTo c at ms → ns ≡ ms
one_way top top = refl
one_way {c = c} (step {number = i} {above = a} e u is) way =
    let f = above_of way e in
    is ∙ ap (λ l. l ++ i ∷ []) (one_way u f.1) ∙ sym f.2

pub last-way : {c : Games} {i : ℕ} {way : List ℕ} → IsPathTo c (Some i) way → last_number way ≡ i
last-way {i = i} (step {above = above} e u is) = ap last_number is ∙ last_number-append above i []

pub some_node : {c : Games} {i : ℕ} {way : List ℕ} → IsPathTo c (Some i) way → 0 < length way
some_node {i = i} (step {above = above} e up is) = omega (arith, ap length is, length-append above (i ∷ []))

pub way_within : {c : Games} {i : ℕ} {way : List ℕ} → IsPathTo c (Some i) way → i < node_count c
way_within {c = c} (step {number = i} {parent = p} e up is) = node_within c i p e

-- numbers that rise are below their end, and no more than the numbers there
pub rises_parts : (low : ℕ) (ns : List ℕ) (high : ℕ) → Rises low ns high → Each (λ n. n < high) ns × (length ns + low ≤ high)
rises_parts low [] high h = (tt, omega arith)
rises_parts low (n ∷ ns) high h = let r = rises_parts (n + 1) ns high h.1 in ((omega (arith, r.1), r.0), omega (arith, r.1, h.0))

-- the nodes of a way rise
pub way_rises : {c : Games} {i : ℕ} {way : List ℕ} → IsPathTo c (Some i) way → Rises 0 way (i + 1)
way_rises {c = c} {i = i} (step {parent = None} {above = above} e up is) = grind (arith, common_steps, none_above)
way_rises {c = c} {i = i} (step {parent = Some n} {above = above} e up is) = rw is (rises-append 0 (n + 1) (i + 1) above (i ∷ []) (way_rises up) (omega (arith, parent_at-lt c i n e), omega arith))

-- xs stand in `all` from the index `at` on
pub record StandsAt (all : List OrderedNode) (at : ℕ) (xs : List OrderedNode) : Type 0 where
  pub before : List OrderedNode
  pub after : List OrderedNode
  pub is : all ≡ before ++ (xs ++ after)
  pub length_is : length before ≡ at

stands_left : {all : List OrderedNode} {at : ℕ} (xs ys : List OrderedNode) → StandsAt all at (xs ++ ys) → StandsAt all at xs
stands_left xs ys h = grind (arith, common_steps, append_assoc)

pub stands_right : {all : List OrderedNode} {at : ℕ} (end : ℕ) (xs ys : List OrderedNode) → StandsAt all at (xs ++ ys) → end ≡ at + length xs → StandsAt all end ys
stands_right {at = at} end xs ys h e = grind (arith, common_steps, append_assoc xs ys h.after, append_assoc h.before xs (ys ++ h.after), length-append h.before xs)

pub stands_get : {all : List OrderedNode} {at : ℕ} (xs : List OrderedNode) (k : ℕ) → StandsAt all at xs → k < length xs → slice_get all (at + k) ≡ slice_get xs k
stands_get {at = at} xs k h lt = grind (arith, common_steps, slice_get-right, slice_get-left)

-- the ordered nodes of games, the first of which begins at the index `at`, stand in those of the collection
abbrev pub Stands : Games → ℕ → Option ℕ → Games → Type 0
Stands c at parent g = StandsAt (ordered_nodes c) at (nodes_from at parent g)

pub stands_whole : (c : Games) → Stands c 0 None c
stands_whole c = record { before = []; after = []; is = sym (append-nil (ordered_nodes c)); length_is = refl }

-- the first ordered node of a game
abbrev pub first_ordered : Option ℕ → Node → OrderedNode
first_ordered parent first = record { node = first; parent = parent; opens = true }

-- the parts of a game's ordered nodes
module _ (c : Games) (at : ℕ) (parent : Option ℕ) (first : Node) (more : List Node) (below after : Games) (h : Stands c at parent (game first more below after)) where
  abbrev own : List OrderedNode
  own = first_ordered parent first ∷ further_nodes at more

  abbrev under : List OrderedNode
  under = nodes_from (at + length more + 1) (Some (at + length more)) below

  front : StandsAt (ordered_nodes c) at (own ++ under)
  front = stands_left (own ++ under) (nodes_from (at + length more + 1 + node_count below) parent after) h

  pub stands_own : StandsAt (ordered_nodes c) at (first_ordered parent first ∷ further_nodes at more)
  stands_own = stands_left own under front

  pub stands_below : Stands c (at + length more + 1) (Some (at + length more)) below
  stands_below = stands_right (at + length more + 1) own under front (omega (arith, length-further_nodes at more))

  pub stands_after : Stands c (at + length more + 1 + node_count below) parent after
  stands_after =
      let count : length (own ++ under) ≡ suc (length more) + node_count below =
      length-append own under ∙ omega (arith, length-further_nodes at more, length-nodes_from (at + length more + 1) (Some (at + length more)) below) in
      stands_right (at + length more + 1 + node_count below) (own ++ under) (nodes_from (at + length more + 1 + node_count below) parent after) h (omega arith)

  pub first_parent : parent_at c at ≡ Some parent
  first_parent = rw add-zero at (ap (option_map (λ (r : OrderedNode). r.parent)) (stands_get own 0 stands_own (omega arith)))

  pub further_parent : (k : ℕ) → k < length more → parent_at c (at + suc k) ≡ Some (Some (at + k))
  further_parent k lt =
      ap (option_map (λ (r : OrderedNode). r.parent)) (stands_get own (suc k) stands_own (omega (arith, length-further_nodes at more))) ∙ parent_in-further at more k lt

-- the way to the parent of the node `next` is a front of the path `old`
pub record Front (c : Games) (next : ℕ) (old : List ℕ) : Type 0 where
  pub parent : Option ℕ
  pub parent_is : parent_at c next ≡ Some parent
  pub above : List ℕ
  pub up : IsPathTo c parent above
  pub rest : List ℕ
  pub old_is : old ≡ above ++ rest

-- the path `new` goes on from there, from the node `next` down to the next leaf
pub record GoesOn (c : Games) (next : ℕ) (old new : List ℕ) : Type 0 where
  pub front : Front c next old
  pub more : ℕ
  pub new_is : new ≡ front.above ++ range_with_len next (suc more)
  pub up : IsPathTo c (Some (next + more)) new
  pub is_leaf : IsLeaf c (next + more)
  pub none : HasNoLeaf c next (next + more)

-- each of these paths goes on from the one before it; `next` is the first node after the path `old`
abbrev pub Follow : Games → ℕ → List ℕ → List (List ℕ) → ℕ → Type 0
Follow c next old [] end = next ≡ end
Follow c next old (new ∷ news) end = (g : GoesOn c next old new) × Follow c (next + g.more + 1) new news end

-- down along nodes of which each is the parent of the next one
pub way_along : (c : Games) (m start : ℕ) (parent : Option ℕ) (above : List ℕ) → parent_at c start ≡ Some parent → IsPathTo c parent above
    → ((n : ℕ) → start < n → n ≤ start + m → parent_at c n ≡ Some (Some (n - 1))) → IsPathTo c (Some (start + m)) (above ++ range_with_len start (suc m))
way_along c zero start parent above e up chain = rw add-zero (step e up refl)
way_along c (suc m) start parent above e up chain =
    let sum : start + 1 + m ≡ start + suc m = omega arith in
    let less : start + 1 - 1 ≡ start = omega arith in
    search (rules, append_assoc, (way_along c m (start + 1) (Some start) (above ++ start ∷ []) (rw less at (chain (start + 1) (omega arith) (omega arith))) (step e up refl) (λ n lt le. chain n (omega arith) (omega arith))))

-- The nodes from `from` on and before `at` go on from a front of the path `old`, each the parent of the next one, so that they end the path `above` to the parent
-- of the node `at`.
record Down (c : Games) (from at : ℕ) (parent : Option ℕ) (above old : List ℕ) : Type 0 where
  front : Front c from old
  within : from ≤ at
  above_is : above ≡ front.above ++ range_with_len from (at - from)
  chain : (n : ℕ) → from < n → n < at → parent_at c n ≡ Some (Some (n - 1))
  parent_is : from < at → parent ≡ Some (at - 1)

goes_on_to : (c : Games) (from leaf : ℕ) (new old : List ℕ) → Down c from (leaf + 1) (Some leaf) new old → from ≤ leaf → IsLeaf c leaf → GoesOn c from old new
goes_on_to c from leaf new old d le is_leaf =
    let there : from + (leaf - from) ≡ leaf = omega arith in
    let count : leaf + 1 - from ≡ suc (leaf - from) = omega arith in
    let new_is : new ≡ d.front.above ++ range_with_len from (suc (leaf - from)) = rw count at d.above_is in
    record {
      front = d.front;
      more = leaf - from;
      new_is = new_is;
      up = rw new_is (way_along c (leaf - from) from d.front.parent d.front.above d.front.parent_is d.front.up (λ n lt most. d.chain n lt (omega arith)));
      is_leaf = rw there is_leaf;
      none = λ n ge lt none. none (n + 1) (let less : n + 1 - 1 ≡ n = omega arith in rw less at (d.chain (n + 1) (omega arith) (omega arith)));
    }

-- The games stand in the collection from the index `at` on, after their parent. The node after them has its parent before them.
record Among (c : Games) (at : ℕ) (parent : Option ℕ) (g : Games) : Type 0 where
  stands : Stands c at parent g
  parent_first : (i : ℕ) → parent ≡ Some i → i < at
  next_above : (i : ℕ) → parent_at c (at + node_count g) ≡ Some (Some i) → i < at

-- the first node of games has their parent
games_parent : (c : Games) (at : ℕ) (parent : Option ℕ) (g : Games) → Stands c at parent g → 0 < node_count g → parent_at c at ≡ Some parent
games_parent c at parent no_games h some = absurd (omega arith)
games_parent c at parent (game first more below after) h some = first_parent c at parent first more below after h

-- if a node isn't the parent of the next one, it is a leaf
pub leaf_by_next : (c : Games) (i : ℕ) → parent_at c (i + 1) ≢ Some (Some i) → IsLeaf c i
leaf_by_next c i other j e = other (next-child c j i e)

module _ (c : Games) (at : ℕ) (parent : Option ℕ) (first : Node) (more : List Node) (below after : Games) (h : Among c at parent (game first more below after)) where
  abbrev last : ℕ
  last = at + length more

  -- the node after the games below has its parent before them
  after_above : (i : ℕ) → parent_at c (last + 1 + node_count below) ≡ Some (Some i) → i < at
  after_above i e = grind (arith, common_steps, cases_lt 0 (node_count after), games_parent c (last + 1 + node_count below) parent after (stands_after c at parent first more below after h.stands), h.parent_first i, h.next_above i)

  among_below : Among c (last + 1) (Some last) below
  among_below = grind (arith, common_steps, stands_below, after_above)

  among_after : Among c (last + 1 + node_count below) parent after
  among_after = grind (arith, common_steps, stands_after)

  own_chain : (n : ℕ) → at < n → n ≤ last → parent_at c n ≡ Some (Some (n - 1))
  own_chain n lt le = grind (arith, common_steps, further_parent c at parent first more below after h.stands (n - at - 1))

  -- down its own nodes too
  own_down : (from : ℕ) (above old : List ℕ) → Down c from at parent above old → Down c from (last + 1) (Some last) (above ++ range_with_len at (suc (length more))) old
  own_down from above old d = record {
    front = d.front;
    within = omega (arith, d.within);
    above_is =
        let there : from + (at - from) ≡ at = omega (arith, d.within) in
        let sum : at - from + suc (length more) ≡ last + 1 - from = omega (arith, d.within) in
        ap (λ ns. ns ++ range_with_len at (suc (length more))) d.above_is ∙ append_assoc d.front.above (range_with_len from (at - from)) (range_with_len at (suc (length more)))
        ∙ ap (λ ns. d.front.above ++ ns) (rw (there, sum) at (range_append from (at - from) (suc (length more))));
    chain = λ n lt le. elim (cases_lt n at) [
      | inl before ↦ d.chain n lt before
      | inr ge ↦ elim (cases_eq n at) [
        | inl same ↦ rw (same, ← d.parent_is (omega arith)) (first_parent c at parent first more below after h.stands)
        | inr other ↦ own_chain n (omega arith) (omega arith)
      ]
    ];
    parent_is = λ lt. let less : last + 1 - 1 ≡ last = omega arith in rw less refl;
  }

-- the ways down games, by numbers
abbrev ways : ℕ → Games → List (List ℕ)
ways at no_games = []
ways at (game first more below after) =
    through (range_with_len at (suc (length more))) (ways (at + length more + 1) below) ++ ways (at + length more + 1 + node_count below) after

-- each after the path `above`
abbrev rows : List ℕ → List (List ℕ) → List (List ℕ)
rows above ls = map (λ l. above ++ l) ls

some_ways : (own : List ℕ) (ls ms : List (List ℕ)) → through own ls ++ ms ≢ []
some_ways own [] ms e = cc
some_ways own (l ∷ ls) ms e = cc

rows_joined : (above own : List ℕ) (ls others tail : List (List ℕ)) → ls ≢ [] → rows above (through own ls ++ others) ++ tail ≡ rows (above ++ own) ls ++ (rows above others ++ tail)
rows_joined above own [] others tail some = absurd (some refl)
rows_joined above own (l ∷ ls) others tail some = ap (λ ms. ms ++ tail) (map-append (λ m. above ++ m) (rows own (l ∷ ls)) others ∙ ap (λ ms. ms ++ rows above others) (by (l ∷ ls))) ∙ append_assoc (rows (above ++ own) (l ∷ ls)) (rows above others) tail
  where
    by : (ms : List (List ℕ)) → rows above (rows own ms) ≡ rows (above ++ own) ms
    by [] = refl
    by (m ∷ ms) = let one = append_assoc above own m in let rest = by ms in cc

-- games that stand after a path begin with a node that goes on from a front of it
begin_down : (c : Games) (at : ℕ) (parent : Option ℕ) (above old rest : List ℕ) (g : Games) → Stands c at parent g → 0 < node_count g → IsPathTo c parent above → old ≡ above ++ rest
    → Down c at at parent above old
begin_down c at parent above old rest g h some up is =
    let none : at - at ≡ 0 = omega arith in
    record {
      front = record { parent = parent; parent_is = games_parent c at parent g h some; above = above; up = up; rest = rest; old_is = is };
      within = omega arith;
      above_is = rw none (sym (append-nil above));
      chain = λ n lt le. absurd (omega arith);
      parent_is = λ lt. absurd (omega arith);
    }

follows : (c g : Games) (at from : ℕ) (parent : Option ℕ) (above old : List ℕ) (tail : List (List ℕ)) (end : ℕ) → Among c at parent g → IsPathTo c parent above
    → (0 < node_count g → Down c from at parent above old) → (node_count g ≡ 0 → Follow c from old tail end)
    → ((last rest : List ℕ) → last ≡ above ++ rest → Follow c (at + node_count g) last tail end) → Follow c from old (rows above (ways at g) ++ tail) end
unfolding goes_on_to
follows c no_games at from parent above old tail end h up down none goes = none refl
follows c (game first more no_games after) at from parent above old tail end h up down none goes =
    let leaf = at + length more in
    let fresh = range_with_len at (suc (length more)) in
    let own = above ++ fresh in
    let next = leaf + 1 + node_count no_games in
    let sum : next + node_count after ≡ at + node_count (game first more no_games after) = omega arith in
    let one : next ≡ leaf + 1 = omega arith in
    let is_leaf : IsLeaf c leaf = leaf_by_next c leaf (λ e. absurd (omega (arith, after_above c at parent first more no_games after h leaf (rw one e)))) in
    let d = down (omega arith) in
    let there : from + (leaf - from) + 1 ≡ next = omega (arith, d.within) in
    let all = among_after c at parent first more no_games after h in (
      goes_on_to c from leaf own old (own_down c at parent first more no_games after h from above old d) (omega (arith, d.within)) is_leaf,
      rw there (follows c after next next parent above own tail end all up (λ some. begin_down c next parent above own fresh after all.stands some up refl)
          (λ e. let same : at + node_count (game first more no_games after) ≡ next = omega arith in rw same at (goes own fresh refl)) (λ last rest is. rw sum (goes last rest is))),
    )
follows c (game first more (game f m b a) after) at from parent above old tail end h up down none goes =
    let leaf = at + length more in
    let fresh = range_with_len at (suc (length more)) in
    let next = leaf + 1 + node_count (game f m b a) in
    let others = ways next after in
    let sum : next + node_count after ≡ at + node_count (game first more (game f m b a) after) = omega arith in
    let all = among_after c at parent first more (game f m b a) after h in
    let own_up = way_along c (length more) at parent above (first_parent c at parent first more (game f m b a) after h.stands) up (λ n lt le. own_chain c at parent first more (game f m b a) after h n lt le) in
    rw (rows_joined above fresh (ways (leaf + 1) (game f m b a)) others tail (some_ways (range_with_len (leaf + 1) (suc (length m))) (ways (leaf + 1 + length m + 1) b) (ways (leaf + 1 + length m + 1 + node_count b) a)))
    (follows c (game f m b a) (leaf + 1) from (Some leaf) (above ++ fresh) old (rows above others ++ tail) end (among_below c at parent first more (game f m b a) after h) own_up
    (λ some. own_down c at parent first more (game f m b a) after h from above old (down (omega arith))) (λ e. absurd (omega arith))
    (λ last rest is.
    let at_last = is ∙ append_assoc above fresh rest in
    follows c after next next parent above last tail end all up (λ some. begin_down c next parent above last (fresh ++ rest) after all.stands some up at_last)
    (λ e. let same : at + node_count (game first more (game f m b a) after) ≡ next = omega arith in rw same at (goes last (fresh ++ rest) at_last)) (λ past more_rest e. rw sum (goes past more_rest e))))

-- ---- These are the paths of the collection.

abbrev pub numbers_of_nodes : List Node → List ℕ
numbers_of_nodes ns = map (λ n. n.place) ns

pub numbers_in_order : (at : ℕ) (ns : List Node) → numbers_of_nodes (numbered_nodes at ns) ≡ range_with_len at (length ns)
numbers_in_order at [] = refl
numbers_in_order at (n ∷ ns) = ap (λ l. at ∷ l) (numbers_in_order (at + 1) ns)

ways_are : (at : ℕ) (g : Games) → map numbers_of_nodes (node_lines (numbered at g)) ≡ ways at g
ways_are at no_games = refl
ways_are at (game first more below after) =
    let next = at + length more + 1 in
    let own : List Node = record first { place = at } ∷ numbered_nodes (at + 1) more in
    let one : numbers_of_nodes own ≡ range_with_len at (suc (length more)) = ap (λ ns. at ∷ ns) (numbers_in_order (at + 1) more) in
    map-append numbers_of_nodes (through own (node_lines (numbered next below))) (node_lines (numbered (next + node_count below) after))
    ∙ cc (map-through (λ (n : Node). n.place) own (node_lines (numbered next below)), one, ways_are next below, ways_are (next + node_count below) after)

all_numbers : (number : ℕ) (g : Games) → map (λ p. p.numbers) (map path_of (lines_from number g)) ≡ map numbers_of_nodes (node_lines g)
all_numbers number no_games = refl
all_numbers number (game first more below after) = grind (arith, common_steps, map-map, all_numbers (number + 1) after, map-append)

-- so the paths of a collection follow one another, and no node follows them
pub paths_follow : (c : Games) → Follow c 0 [] (map (λ p. p.numbers) (paths c)) (node_count c)
paths_follow c =
    let past : (i : ℕ) → parent_at c (0 + node_count c) ≡ Some (Some i) → i < 0 = λ i e. absurd (omega (arith, node_within c (0 + node_count c) (Some i) e)) in
    let all : Among c 0 None c = record { stands = stands_whole c; parent_first = λ i e. absurd cc; next_above = past } in
    let are : rows [] (ways 0 c) ++ [] ≡ map (λ p. p.numbers) (paths c) =
    append-nil (rows [] (ways 0 c)) ∙ map-id (ways 0 c) ∙ sym (all_numbers 1 (numbered 0 c) ∙ ways_are 0 c) in
    rw are at (follows c c 0 0 None [] [] [] (node_count c) all top (λ some. begin_down c 0 None [] [] [] c (stands_whole c) some top refl) (λ e. sym e) (λ last rest is. omega arith))

-- numbers down to a leaf
pub record LeadsToLeaf (c : Games) (numbers : List ℕ) : Type 0 where
  pub up : IsPathTo c (Some (last_number numbers)) numbers
  pub is_leaf : IsLeaf c (last_number numbers)

pub ends_at : {c : Games} {next : ℕ} {old new : List ℕ} (g : GoesOn c next old new) → last_number new ≡ next + g.more
ends_at g = last-way g.up

each_leads : (c : Games) (next end : ℕ) (old : List ℕ) (ls : List (List ℕ)) → Follow c next old ls end → Each (LeadsToLeaf c) ls
each_leads c next end old [] f = tt
each_leads c next end old (l ∷ ls) (g, f) = let ends = ends_at g in (record { up = rw ends g.up; is_leaf = rw ends g.is_leaf }, each_leads c (next + g.more + 1) end l ls f)

leaves_rise : (c : Games) (next end : ℕ) (old : List ℕ) (ls : List (List ℕ)) → Follow c next old ls end → Rises next (map last_number ls) end
leaves_rise c next end old [] f = omega (arith, f)
leaves_rise c next end old (l ∷ ls) (g, f) = let ends = ends_at g in rw ends (omega arith, leaves_rise c (next + g.more + 1) end l ls f)

visited_leaf : (c : Games) (next end : ℕ) (old : List ℕ) (ls : List (List ℕ)) → Follow c next old ls end → (i : ℕ) → next ≤ i → i < end → IsLeaf c i
    → (k : ℕ) × (slice_get (map last_number ls) k ≡ Some i)
visited_leaf c next end old [] f i le lt is_leaf = absurd (omega (arith, f))
visited_leaf c next end old (l ∷ ls) (g, f) i le lt is_leaf = elim (cases_lt (next + g.more) i) [
  | inl past ↦ let rest = visited_leaf c (next + g.more + 1) end l ls f i (omega arith) lt is_leaf in (suc rest.0, rest.1)
  | inr there ↦ grind (arith, common_steps, cases_eq i (next + g.more), ends_at g)
]

-- the first node after a path is the one after its leaf
pub after_way : {c : Games} {i : ℕ} {way : List ℕ} → IsPathTo c (Some i) way → first_after way ≡ i + 1
after_way {way = []} h = absurd (omega (arith, some_node h))
after_way {way = n ∷ ns} h = ap (λ k. k + 1) (last-way h)

pub continues : {c : Games} {next : ℕ} {old new : List ℕ} → GoesOn c next old new → first_after old ≡ next → (kept : ℕ) × Continues old kept new
continues {old = old} g at = grind (arith, common_steps, front, take-append_seam g.front.above g.front.rest, length-append g.front.above g.front.rest, add-one)

leaves_of : (ps : List Path) → map last_number (map (λ p. p.numbers) ps) ≡ map leaf_of ps
leaves_of ps = map-map last_number (λ p. p.numbers) ps

-- the paths' leaves rise
pub leaves_in_order : (c : Games) → Rises 0 (map leaf_of (paths c)) (node_count c)
leaves_in_order c = rw (← leaves_of (paths c)) (leaves_rise c 0 (node_count c) [] (map (λ p. p.numbers) (paths c)) (paths_follow c))

-- each leaf is that of a path
pub covered : (c : Games) (i : ℕ) → i < node_count c → IsLeaf c i → (k : ℕ) × (slice_get (map leaf_of (paths c)) k ≡ Some i)
covered c i lt is_leaf = let f = visited_leaf c 0 (node_count c) [] (map (λ p. p.numbers) (paths c)) (paths_follow c) i (omega arith) lt is_leaf in (f.0, rw (leaves_of (paths c)) at f.1)

each_of : (c : Games) (ps : List Path) → Each (LeadsToLeaf c) (map (λ p. p.numbers) ps) → Each (λ p. LeadsToLeaf c p.numbers) ps
each_of c [] h = tt
each_of c (p ∷ ps) h = (h.0, each_of c ps h.1)

pub each_path : (c : Games) → Each (λ p. LeadsToLeaf c p.numbers) (paths c)
each_path c = each_of c (paths c) (each_leads c 0 (node_count c) [] (map (λ p. p.numbers) (paths c)) (paths_follow c))

pub leads : (c : Games) (k : ℕ) (p : Path) → slice_get (paths c) k ≡ Some p → LeadsToLeaf c p.numbers
leads c k p e = each_get (λ path. LeadsToLeaf c path.numbers) (paths c) k p (each_path c) e

pub each_ends : (c : Games) → All (EndsInLeaf c) (paths c)
each_ends c = grind (arith, common_steps, each_weaker, way_within, each_path)

-- the path at each index goes on from the one before it
goes_on_in : {c : Games} (next end : ℕ) (old : List ℕ) (ls : List (List ℕ)) (k : ℕ) (p q : List ℕ) → Each (LeadsToLeaf c) ls → Follow c next old ls end → first_after old ≡ next
    → slice_get (old ∷ ls) k ≡ Some p → slice_get ls k ≡ Some q → GoesOn c (first_after p) p q
goes_on_in next end old [] k p q h f at e g = absurd cc
goes_on_in {c = c} next end old (l ∷ ls) zero p q h f at e g = grind (arith, common_steps)
goes_on_in next end old (l ∷ ls) (suc k) p q h f at e g = goes_on_in (next + f.0.more + 1) end l ls k p q h.1 f.1 (after_way f.0.up) e g

numbers_at : (c : Games) (k : ℕ) → k ≤ length (paths c) → slice_get ([] ∷ map (λ p. p.numbers) (paths c)) k ≡ Some (numbers_before c k)
numbers_at c zero le = refl
numbers_at c (suc k) le = grind (arith, common_steps, element (paths c) k (omega arith), slice_get-map)

pub goes_on_there : (c : Games) (k : ℕ) → k < length (paths c) → GoesOn c (first_after (numbers_before c k)) (numbers_before c k) (numbers_before c (suc k))
goes_on_there c k lt = grind (arith, common_steps, goes_on_in, each_leads, paths_follow c, numbers_at c k (omega arith), numbers_at c (suc k) (omega arith))

-- the last path ends with the last node
pub last_end : (c : Games) → first_after (numbers_before c (length (paths c))) ≡ node_count c
last_end c =
    let all : length (map (λ (p : Path). p.numbers) (paths c)) ≡ length (paths c) = length-map (paths c) (λ (p : Path). p.numbers) in
    by 0 (node_count c) [] (map (λ p. p.numbers) (paths c)) (numbers_before c (length (paths c))) (paths_follow c) refl (rw all (numbers_at c (length (paths c)) (omega arith)))
  where
    by : (next end : ℕ) (old : List ℕ) (ls : List (List ℕ)) (p : List ℕ) → Follow c next old ls end → first_after old ≡ next → slice_get (old ∷ ls) (length ls) ≡ Some p → first_after p ≡ end
    by next end old [] p f at e = let same : old ≡ p = cc in ap first_after (sym same) ∙ at ∙ f
    by next end old (l ∷ ls) p f at e = by (next + f.0.more + 1) end l ls p f.1 (after_way f.0.up) e
