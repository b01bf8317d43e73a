-- Laws on the ordered nodes of a collection: where parents stand, and in which game.
use Rattle.sgf_outline.proofs.Common.{slice_get_within, ◌≡◌, ℕ, zero, suc, ◌+◌, ◌-◌, ◌<◌, ◌≤◌, ◌⊎◌, inl, inr, true, List, [], ◌∷◌, ◌++◌, length, slice_get, Option, Some, None, option_map, refl, sym, ap, ◌∙◌, arith, length-append, rules, lt-ltb, le-ltb, cases_lt, common_steps, OrderedNode, further_nodes, nodes_from, ordered_nodes, parent_at, game_of, Node, Games, no_games, game, node_count}
use Rattle.sgf_outline.proofs.Lists.{slice_get-left, slice_get-right}

-- the parent of the node of a number
abbrev pub parent_in : List OrderedNode → ℕ → Option (Option ℕ)
parent_in rs j = option_map (λ (r : OrderedNode). r.parent) (slice_get rs j)

pub parent_in-left : (xs ys : List OrderedNode) (i : ℕ) → i < length xs → parent_in (xs ++ ys) i ≡ parent_in xs i
parent_in-left xs ys i h = ap (option_map (λ (r : OrderedNode). r.parent)) (slice_get-left xs ys i h)

pub parent_in-right : (xs ys : List OrderedNode) (i k : ℕ) → i ≡ length xs + k → parent_in (xs ++ ys) i ≡ parent_in ys k
parent_in-right xs ys i k h = ap (option_map (λ (r : OrderedNode). r.parent)) (slice_get-right xs ys i k h)

pub parent_in-within : (rs : List OrderedNode) (j : ℕ) (p : Option ℕ) → parent_in rs j ≡ Some p → j < length rs
parent_in-within rs j p h = grind (arith, common_steps, slice_get_within)

pub length-further_nodes : (last : ℕ) (ns : List Node) → length (further_nodes last ns) ≡ length ns
length-further_nodes last [] = refl
length-further_nodes last (n ∷ ns) = ap suc (length-further_nodes (last + 1) ns)

pub length-nodes_from : (at : ℕ) (parent : Option ℕ) (g : Games) → length (nodes_from at parent g) ≡ node_count g
length-nodes_from at parent no_games = refl
length-nodes_from at parent (game first more below after) =
    let last : ℕ = at + length more in
    grind (arith, common_steps, length-append, length-further_nodes, (length-nodes_from (last + 1) (Some last) below), (length-nodes_from (last + 1 + node_count below) parent after))

pub parent_in-further : (last : ℕ) (ns : List Node) (j : ℕ) → j < length ns → parent_in (further_nodes last ns) j ≡ Some (Some (last + j))
parent_in-further last [] j h = absurd (omega arith)
parent_in-further last (n ∷ ns) zero h = let e : last + 0 ≡ last = omega arith in rw e
parent_in-further last (n ∷ ns) (suc j) h = search (rules, (parent_in-further (last + 1) ns j (omega arith)))

-- the first of some games has the parent of them all
parent_in-first : (at : ℕ) (parent : Option ℕ) (g : Games) → 0 < length (nodes_from at parent g) → parent_in (nodes_from at parent g) 0 ≡ Some parent
parent_in-first at parent no_games h = absurd (omega arith)
parent_in-first at parent (game first more below after) h = refl

-- node i is one of these ordered nodes, stands before place j, and the node after it has it as its parent
pub record IsParentWithin (at : ℕ) (rs : List OrderedNode) (j i : ℕ) : Type 0 where
  pub from : at ≤ i
  pub before : i < at + j
  pub next : parent_in rs (suc i - at) ≡ Some (Some i)

within-left : (at : ℕ) (xs ys : List OrderedNode) (j i : ℕ) → IsParentWithin at xs j i → IsParentWithin at (xs ++ ys) j i
within-left at xs ys j i w = grind (arith, common_steps, parent_in-left, parent_in-within)

within-right : (at start : ℕ) (xs ys : List OrderedNode) (j k i : ℕ) → start ≡ at + length xs → j ≡ length xs + k → IsParentWithin start ys k i → IsParentWithin at (xs ++ ys) j i
within-right at start xs ys j k i e f w = grind (arith, common_steps, parent_in-right)

-- the first of the nodes ys has the parent i, which is the last of the nodes xs
within-last : (at last : ℕ) (xs ys : List OrderedNode) (j k i : ℕ) → last + 1 ≡ at + length xs → 0 < length xs → j ≡ length xs + k → last ≡ i → parent_in ys 0 ≡ Some (Some last) → IsParentWithin at (xs ++ ys) j i
within-last at last xs ys j k i e some f same first = grind (arith, common_steps, parent_in-right)

-- the game's own nodes: the first has the parent of the game, each further one the node before it
own-within : (at : ℕ) (parent : Option ℕ) (first : OrderedNode) (more : List Node) (j i : ℕ) → first.parent ≡ parent → j < suc (length more) → parent_in (first ∷ further_nodes at more) j ≡ Some (Some i)
    → (parent ≡ Some i) ⊎ IsParentWithin at (first ∷ further_nodes at more) j i
own-within at parent first more j i h k w = search (rules, parent_in-further)

-- what holds within each of two lists of ordered nodes holds within both
joined-within : (at start : ℕ) (xs ys : List OrderedNode) (j i : ℕ) (P : Type 0) → start ≡ at + length xs → parent_in (xs ++ ys) j ≡ Some (Some i)
    → (j < length xs → parent_in xs j ≡ Some (Some i) → P ⊎ IsParentWithin at xs j i)
    → ((k : ℕ) → j ≡ length xs + k → parent_in ys k ≡ Some (Some i) → P ⊎ IsParentWithin at (xs ++ ys) j i)
    → P ⊎ IsParentWithin at (xs ++ ys) j i
joined-within at start xs ys j i P e h left right = grind (arith, common_steps, cases_lt j (length xs), parent_in-left, within-left, parent_in-right xs ys j (j - length xs), right (j - length xs))

-- a node that has the parent i has the parent of all these games, or i is one of their nodes
pub parent-within : (at : ℕ) (parent : Option ℕ) (g : Games) (j i : ℕ) → parent_in (nodes_from at parent g) j ≡ Some (Some i) → (parent ≡ Some i) ⊎ IsParentWithin at (nodes_from at parent g) j i
parent-within at parent no_games j i h = absurd (cc)
parent-within at parent (game first more below after) j i h =
    let last : ℕ = at + length more in
    let own : List OrderedNode = record { node = first; parent = parent; opens = true } ∷ further_nodes at more in
    let under : List OrderedNode = nodes_from (last + 1) (Some last) below in
    let start : ℕ = last + 1 + node_count below in
    let next : List OrderedNode = nodes_from start parent after in
    let owns : length own ≡ suc (length more) = ap suc (length-further_nodes at more) in
    let unders : length under ≡ node_count below = length-nodes_from (last + 1) (Some last) below in
    let both : length (own ++ under) ≡ suc (length more) + node_count below = omega (arith, length-append own under) in
    joined-within at start (own ++ under) next j i (parent ≡ Some i) (omega arith) h
    (λ lt here.
    joined-within at (last + 1) own under j i (parent ≡ Some i) (omega arith) here
    (λ lt' in_own. own-within at parent (record { node = first; parent = parent; opens = true }) more j i refl (omega arith) in_own)
    (λ k e in_under.
    elim (parent-within (last + 1) (Some last) below k i in_under) [
      | inl p ↦
          inr (within-last at last own under j k i (omega arith) (omega arith) e (cc) (parent_in-first (last + 1) (Some last) below (omega (arith, parent_in-within under k (Some i) in_under))))
      | inr w ↦ inr (within-right at (last + 1) own under j k i (omega arith) e w)
    ]))
    (λ k e in_next.
    grind (arith, common_steps, parent-within start parent after k i in_next, within-right at start (own ++ under) next j k i))

pub parent_at-within : (c : Games) (i : ℕ) (p : Option ℕ) → parent_at c i ≡ Some p → i < length (ordered_nodes c)
parent_at-within c i p h = parent_in-within (ordered_nodes c) i p h

-- a parent stands before its node
pub parent_at-lt : (c : Games) (j i : ℕ) → parent_at c j ≡ Some (Some i) → i < j
parent_at-lt c j i h = grind (arith, common_steps, parent-within 0 None c j i h)

-- a node that is a parent is the one of the node after it
pub next-child : (c : Games) (j i : ℕ) → parent_at c j ≡ Some (Some i) → parent_at c (i + 1) ≡ Some (Some i)
next-child c j i h = grind (arith, common_steps, parent-within 0 None c j i h)

-- there is an ordered node for each node
pub length-ordered_nodes : (c : Games) → length (ordered_nodes c) ≡ node_count c
length-ordered_nodes c = length-nodes_from 0 None c

-- a node of the first game, and one of the games after it
pub game-first : (first : Node) (more : List Node) (below after : Games) (m : ℕ) → m < 1 + length more + node_count below → game_of (game first more below after) m ≡ 1
game-first first more below after m lt = rw (lt-ltb m (1 + length more + node_count below) lt) refl

pub game-after : (first : Node) (more : List Node) (below after : Games) (m k : ℕ) → m ≡ 1 + length more + node_count below + k → game_of (game first more below after) m ≡ 1 + game_of after k
game-after first more below after m k e = grind (arith, common_steps, le-ltb)

game_of-from : (at : ℕ) (g : Games) (j i : ℕ) → parent_in (nodes_from at None g) j ≡ Some (Some i) → game_of g (i - at) ≡ game_of g j
game_of-from at no_games j i h = refl
game_of-from at (game first more below after) j i h =
    let last : ℕ = at + length more in
    let front : List OrderedNode = record { node = first; parent = None; opens = true } ∷ further_nodes at more ++ nodes_from (last + 1) (Some last) below in
    let start : ℕ = last + 1 + node_count below in
    let size : ℕ = 1 + length more + node_count below in
    grind (arith, common_steps, length-append, length-further_nodes, length-nodes_from, cases_lt j size, parent-within at None (game first more below after) j i h, game-first, parent_in-right front (nodes_from start None after) j (j - size), parent-within start None after (j - size) i, game-after, game_of-from start after (j - size) i)

-- a node is in the game of its parent
pub game_of-parent : (c : Games) (j i : ℕ) → parent_at c j ≡ Some (Some i) → game_of c i ≡ game_of c j
game_of-parent c j i h = let e : i - 0 ≡ i = omega arith in ap (game_of c) (sym e) ∙ game_of-from 0 c j i h
