-- The paths of a collection name the nodes of its lines, and begin in their games.
use Rattle.tree_lines.proofs.Common.{◌≡◌, ℕ, ◌+◌, ◌<◌, List, [], ◌∷◌, ◌++◌, length, map, slice_get, Option, Some, None, refl, sym, ap, ◌∙◌, arith, false, add-zero, ◌-◌, ◌≤◌, get_or, rules, lt-ltb, le-ltb, AllZip, common_steps, map-append, OrderedNode, further_nodes, ordered_nodes, node_at, place_at, game_of, Node, Games, no_games, game, node_count, Line, through, node_lines, lines_of_game, lines_from, lines, last_number, place_of, Path, numbered_nodes, numbered, path_of, paths, leaf_of, IsPathOf, slice_get_within}
use mathlib.Core.List.{map-map}
use Rattle.std.proofs.lemmas.Slice.Zip.{AllZip-long, AllZip-right}
use Rattle.tree_lines.proofs.Visits.{StandsAt, Stands, stands_whole, stands_get, stands_right, stands_own, stands_below, stands_after, first_ordered, some_node, leads}
use Rattle.tree_lines.proofs.Lists.{Each, each_append, each_weaker, map-through, element}

zip_append : {A B : Type 0} (R : A → B → Type 0) (xs us : List A) (ys vs : List B) → AllZip R xs ys → AllZip R us vs → AllZip R (xs ++ us) (ys ++ vs)
zip_append R [] us [] vs h k = k
zip_append R [] us (y ∷ ys) vs h k = absurd h
zip_append R (x ∷ xs) us [] vs h k = absurd h
zip_append R (x ∷ xs) us (y ∷ ys) vs h k = (h.0, zip_append R xs us ys vs h.1 k)

module _ (c : Games) where
  -- the node that a place names, where places are numbers
  abbrev numbers_node : Node → Option Node
  numbers_node n = node_at c n.place

  -- the others are the nodes with their numbers as places
  abbrev AreNumbered : List Node → List Node → Type 0
  AreNumbered nodes others = map numbers_node others ≡ map Some nodes

  abbrev AllNumbered : List (List Node) → List (List Node) → Type 0
  AllNumbered ls ks = map (map numbers_node) ks ≡ map (map Some) ls

  numbered_further : (at : ℕ) (ns : List Node) → StandsAt (ordered_nodes c) (at + 1) (further_nodes at ns) → AreNumbered ns (numbered_nodes (at + 1) ns)
  numbered_further at [] h = refl
  numbered_further at (n ∷ ns) h =
      let ordered : OrderedNode = record { node = n; parent = Some at; opens = false } in
      let rest = numbered_further (at + 1) ns (stands_right (at + 1 + 1) (ordered ∷ []) (further_nodes (at + 1) ns) h refl) in
      grind (arith, common_steps, add-zero, stands_get (further_nodes at (n ∷ ns)) 0 h (omega arith))

  numbered_own : (at : ℕ) (parent : Option ℕ) (first : Node) (more : List Node) (below after : Games) → Stands c at parent (game first more below after)
      → AreNumbered (first ∷ more) (record first { place = at } ∷ numbered_nodes (at + 1) more)
  numbered_own at parent first more below after h =
      let own = stands_own c at parent first more below after h in
      grind (arith, common_steps, add-zero, stands_get (first_ordered parent first ∷ further_nodes at more) 0 own (omega arith), first_ordered parent first, numbered_further, stands_right (at + 1) (first_ordered parent first ∷ []) (further_nodes at more) own refl)

  numbered_game : (at : ℕ) (parent : Option ℕ) (first : Node) (more : List Node) (below after : Games) → Stands c at parent (game first more below after)
      → AllNumbered (node_lines below) (node_lines (numbered (at + length more + 1) below))
      → AllNumbered (through (first ∷ more) (node_lines below))
      (through (record first { place = at } ∷ numbered_nodes (at + 1) more) (node_lines (numbered (at + length more + 1) below)))
  numbered_game at parent first more below after h rest =
      let others : List Node = record first { place = at } ∷ numbered_nodes (at + 1) more in
      map-through numbers_node others (node_lines (numbered (at + length more + 1) below)) ∙ ap (through (map numbers_node others)) rest
      ∙ ap (λ ns. through ns (map (map Some) (node_lines below))) (numbered_own at parent first more below after h) ∙ sym (map-through Some (first ∷ more) (node_lines below))

  numbered_lines : (g : Games) (at : ℕ) (parent : Option ℕ) → Stands c at parent g → AllNumbered (node_lines g) (node_lines (numbered at g))
  numbered_lines no_games at parent h = refl
  numbered_lines (game first more below after) at parent h =
      let next = at + length more + 1 in
      let here = numbered_game at parent first more below after h (numbered_lines below next (Some (at + length more)) (stands_below c at parent first more below after h)) in
      grind (arith, common_steps, (numbered_lines after (next + node_count below) parent (stands_after c at parent first more below after h)), stands_after, map-append)

  named_game : (number : ℕ) (ls ks : List (List Node)) → AllNumbered ls ks → AllZip (IsPathOf c) (lines_of_game number ls) (map path_of (lines_of_game number ks))
  named_game number [] [] e = tt
  named_game number [] (k ∷ ks) e = absurd cc
  named_game number (l ∷ ls) [] e = absurd cc
  named_game number (l ∷ ls) (k ∷ ks) e = grind (arith, common_steps, map-map, named_game number ls ks)

  named_from : (number : ℕ) (g : Games) (at : ℕ) → Stands c at None g → AllZip (IsPathOf c) (lines_from number g) (map path_of (lines_from number (numbered at g)))
  named_from number no_games at h = tt
  named_from number (game first more below after) at h =
      let next = at + length more + 1 in
      let ls = through (first ∷ more) (node_lines below) in
      let ks = through (record first { place = at } ∷ numbered_nodes (at + 1) more) (node_lines (numbered next below)) in
      grind (arith, common_steps, map-append, zip_append, named_game number ls ks (numbered_game at None first more below after h (numbered_lines below next (Some (at + length more)) (stands_below c at None first more below after h))), numbered_game, numbered_lines below next (Some (at + length more)) (stands_below c at None first more below after h), stands_below c, (named_from (number + 1) after (next + node_count below) (stands_after c at None first more below after h)), stands_after c)

  -- each line has its path
  pub each_named : AllZip (IsPathOf c) (lines c) (paths c)
  each_named = named_from 1 c 0 (stands_whole c)

  pub length-paths : length (paths c) ≡ length (lines c)
  length-paths = AllZip-long (IsPathOf c) (lines c) (paths c) each_named

  -- the line at the position of a path
  pub record IsNamed (k : ℕ) (path : Path) (line : Line) : Type 0 where
    pub found : slice_get (lines c) k ≡ Some line
    pub game_number : line.game_number ≡ path.game_number
    pub nodes : map Some line.nodes ≡ map (node_at c) path.numbers
    pub place : place_at c (leaf_of path) ≡ Some (place_of line)

  -- the place of a line is that of the last node on its path
  pub place_of_node : (i : ℕ) (n : Node) → Some n ≡ node_at c i → place_at c i ≡ Some n.place
  place_of_node i n e = grind (arith, common_steps)

  place_of_last : (ns : List Node) (is : List ℕ) → 0 < length is → map Some ns ≡ map (node_at c) is → place_at c (last_number is) ≡ Some (last_number (map (λ n. n.place) ns))
  place_of_last ns [] some e = absurd (omega arith)
  place_of_last [] (i ∷ is) some e = absurd cc
  place_of_last (n ∷ []) (i ∷ []) some e = place_of_node i n cc
  place_of_last (n ∷ []) (i ∷ j ∷ js) some e = absurd cc
  place_of_last (n ∷ m ∷ ms) (i ∷ []) some e = absurd cc
  place_of_last (n ∷ m ∷ ms) (i ∷ j ∷ js) some e = place_of_last (m ∷ ms) (j ∷ js) (omega arith) cc

  pub line_at : (k : ℕ) (path : Path) → slice_get (paths c) k ≡ Some path → (line : Line) × IsNamed k path line
  line_at k path e =
      let f = element (lines c) k (omega (arith, length-paths, slice_get_within (paths c) k path e)) in
      let is : IsPathOf c f.0 path = rw (e, f.1) at (AllZip-right (IsPathOf c) (lines c) (paths c) each_named k) in
      grind (arith, common_steps, place_of_last f.0.nodes path.numbers (some_node (leads c k path e).up) (sym is.nodes), some_node (leads c k path e).up, leads c k path e)

-- the game of node n is that of this number, if games from node `at` on begin with the game of the number `from`
abbrev IsOfGame : ℕ → ℕ → Games → ℕ → ℕ → Type 0
IsOfGame from at g number n = (at ≤ n) × (number + 1 ≡ from + game_of g (n - at))

abbrev BeginsIn : ℕ → ℕ → Games → Path → Type 0
BeginsIn from at g path = (d : ℕ) → IsOfGame from at g path.game_number (get_or path.numbers 0 d)

begins_game : (number at : ℕ) (g : Games) (own : Node) (more : List Node) (ls : List (List Node)) → IsOfGame number at g number own.place
    → Each (BeginsIn number at g) (map path_of (lines_of_game number (through (own ∷ more) ls)))
begins_game number at g own more [] h = (λ d. h, tt)
begins_game number at g own more (l ∷ []) h = (λ d. h, tt)
begins_game number at g own more (l ∷ m ∷ ls) h = (λ d. h, begins_game number at g own more (m ∷ ls) h)

in_later : (from at : ℕ) (first : Node) (more : List Node) (below after : Games) (number n : ℕ)
    → IsOfGame (from + 1) (at + length more + 1 + node_count below) after number n → IsOfGame from at (game first more below after) number n
in_later from at first more below after number n h = grind (arith, common_steps, le-ltb)

begin_in : (from at : ℕ) (g : Games) → Each (BeginsIn from at g) (map path_of (lines_from from (numbered at g)))
begin_in from at no_games = tt
begin_in from at (game first more below after) =
    let g = game first more below after in
    let next = at + length more + 1 in
    let own : Node = record first { place = at } in
    let ks = node_lines (numbered next below) in
    let others = lines_from (from + 1) (numbered (next + node_count below) after) in
    let less : at - at ≡ 0 = omega arith in
    let here : IsOfGame from at g from at = (omega arith, rw (less, lt-ltb 0 (1 + length more + node_count below) (omega arith)) refl) in
    search (rules, map-append, each_append, begins_game, each_weaker, in_later, (begin_in (from + 1) (next + node_count below) after))

pub game_of_root : (c : Games) → Each (λ path. (d : ℕ) → game_of c (get_or path.numbers 0 d) ≡ path.game_number) (paths c)
game_of_root c = grind (arith, common_steps, each_weaker, begin_in)
