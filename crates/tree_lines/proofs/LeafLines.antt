-- A line ends at each leaf, so there are as many lines as leaves, and no more lines than nodes.
use Rattle.tree_lines.proofs.Common.{◌≡◌, ℕ, ◌+◌, ◌<◌, ◌≤◌, List, [], ◌∷◌, ◌++◌, length, map, refl, arith, length-append, common_steps, length-map, Node, Games, no_games, game, leaf_count, node_count, lines, lines_from, node_lines, through, paths, leaf_of, rises-count}
use Rattle.tree_lines.proofs.Visits.{leaves_in_order}
use Rattle.tree_lines.proofs.Named.{length-paths}

-- nothing is lost where lists go on from a branch
through_some : {A : Type 0} (own : List A) (rests : List (List A)) → 0 < length rests → length (through own rests) ≡ length rests
through_some own [] some = absurd (omega arith)
through_some own (rest ∷ rests) some = length-map (rest ∷ rests) (λ r. own ++ r)

some_leaf : (first : Node) (more : List Node) (below after : Games) → 0 < leaf_count (game first more below after)
some_leaf first more no_games after = omega arith
some_leaf first more (game f m b a) after = omega (arith, some_leaf f m b a)

-- the variations through some games are as many as their leaves
variations : (games : Games) → length (node_lines games) ≡ leaf_count games
variations no_games = refl
variations (game first more no_games after) = omega (arith, length-append (through (first ∷ more) []) (node_lines after), variations after)
variations (game first more (game f m b a) after) = grind (arith, common_steps, (variations (game f m b a)), some_leaf, length-append, through_some, (variations after))

lines_from_leaves : (number : ℕ) (games : Games) → length (lines_from number games) ≡ leaf_count games
lines_from_leaves number no_games = refl
lines_from_leaves number (game first more below after) =
    grind (arith, common_steps, length-append, length-map, variations, some_leaf, through_some, (lines_from_leaves (number + 1) after))

pub lines_leaves : (games : Games) → length (lines games) ≡ leaf_count games
lines_leaves games = lines_from_leaves 1 games

-- no more lines than nodes
pub lines_within : (c : Games) → length (lines c) ≤ node_count c
lines_within c = omega (arith, rises-count 0 (node_count c) (map leaf_of (paths c)) (leaves_in_order c), length-map (paths c) leaf_of, length-paths c)
