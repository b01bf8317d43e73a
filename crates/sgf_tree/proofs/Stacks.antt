-- The ordered nodes of whole and unclosed games, and the last nodes below: games side by side, and a game that ends.
use Rattle.sgf_tree.proofs.Common.{◌≡◌, ℕ, ◌+◌, List, [], ◌∷◌, ◌++◌, length, Option, None, refl, arith, append_assoc, append-nil, length-append, rules, common_steps, nodes_from, joined, UnclosedGame, whole_game, Games, no_games, game, node_count, unclosed_count, tip, own_nodes, unclosed_nodes, lasts, unclosed_lasts, add_games, length-further_nodes, length-nodes_from, starts_from}
use Rattle.sgf_outline.specs.Listing.{listed, unclosed_list}
use Rattle.sgf_outline.proofs.ListedNodes.{length-listed}

-- games after others have their nodes after theirs
pub ordered-followed : (at : ℕ) (parent : Option ℕ) (a b : Games) → nodes_from at parent (joined a b) ≡ nodes_from at parent a ++ nodes_from (at + node_count a) parent b
ordered-followed at parent no_games b = let e : at + 0 ≡ at = omega arith in rw e
ordered-followed at parent (game first more below after) b = grind (arith, common_steps, append_assoc, (ordered-followed (at + length more + 1 + node_count below) parent after b))

pub lasts-followed : (at : ℕ) (a b : Games) → lasts at (joined a b) ≡ lasts at a ++ lasts (at + node_count a) b
lasts-followed at no_games b = let e : at + 0 ≡ at = omega arith in rw e
lasts-followed at (game first more below after) b = grind (arith, common_steps, append_assoc, (lasts-followed (at + 1 + length more + node_count below) after b))

length-own_nodes : (at : ℕ) (parent : Option ℕ) (g : UnclosedGame) → length (own_nodes at parent g) ≡ 1 + length g.more + node_count g.below
length-own_nodes at parent g = grind (arith, common_steps, length-append, length-further_nodes, length-nodes_from)

pub length-unclosed_nodes : (closed : Games) (gs : List UnclosedGame) → length (unclosed_nodes closed gs) ≡ unclosed_count closed gs
length-unclosed_nodes closed [] = length-nodes_from 0 None closed
length-unclosed_nodes closed (g ∷ gs) =
    omega (arith, length-append (unclosed_nodes closed gs) (own_nodes (unclosed_count closed gs) (tip closed gs) g), length-unclosed_nodes closed gs, length-own_nodes (unclosed_count closed gs) (tip closed gs) g)

-- an unclosed game has the nodes that it has as a whole one
own_nodes-whole : (at : ℕ) (parent : Option ℕ) (g : UnclosedGame) → nodes_from at parent (whole_game g) ≡ own_nodes at parent g
own_nodes-whole at parent g = append-nil (own_nodes at parent g)

-- the end of a game leaves the ordered nodes as they are
pub unclosed_nodes-closed : (closed : Games) (g : UnclosedGame) (gs : List UnclosedGame) → unclosed_nodes (add_games closed gs (whole_game g)).closed (add_games closed gs (whole_game g)).unclosed ≡ unclosed_nodes closed (g ∷ gs)
unclosed_nodes-closed closed g gs = search (rules, ordered-followed, own_nodes-whole, append_assoc)

lasts-whole : (at : ℕ) (g : UnclosedGame) → lasts at (whole_game g) ≡ (at + length g.more + node_count g.below) ∷ lasts (at + 1 + length g.more) g.below
lasts-whole at g = append-nil ((at + length g.more + node_count g.below) ∷ lasts (at + 1 + length g.more) g.below)

-- the last nodes below, once a game is closed
pub unclosed_lasts-closed : (closed : Games) (g : UnclosedGame) (gs : List UnclosedGame)
    → unclosed_lasts (add_games closed gs (whole_game g)).closed (add_games closed gs (whole_game g)).unclosed
    ≡ unclosed_lasts closed gs ++ (unclosed_count closed gs + length g.more + node_count g.below) ∷ lasts (unclosed_count closed gs + 1 + length g.more) g.below
unclosed_lasts-closed closed g gs = search (rules, lasts-followed, lasts-whole, append_assoc)

-- there is a last node for each
pub length-lasts : (n at : ℕ) (g : Games) → length (lasts n g) ≡ length (starts_from at g)
length-lasts n at no_games = refl
length-lasts n at (game first more below after) =
    let next : ℕ = n + 1 + length more in
    let last : ℕ = at + length more in
    omega (arith, length-append (lasts next below) (lasts (next + node_count below) after), length-append (starts_from (last + 1) below) (starts_from (last + 1 + node_count below) after), length-lasts next (last + 1) below, length-lasts (next + node_count below) (last + 1 + node_count below) after)

-- for each of them the last node below it is kept
lasts-listed : (at index number : ℕ) (outer : Option ℕ) (ordinal : ℕ) (a : Games) → length (lasts at a) ≡ length (listed index number outer ordinal a)
lasts-listed at index number outer ordinal a = omega (arith, length-lasts at number a, length-listed index number outer ordinal a)

module _ (closed : Games) where
  pub unclosed_lasts-listed : (gs : List UnclosedGame) → length (unclosed_lasts closed gs) ≡ length (unclosed_list closed gs).sequences
  unclosed_lasts-listed [] = lasts-listed 0 0 0 None 1 closed
  unclosed_lasts-listed (g ∷ gs) = search (rules, length-append, lasts-listed, (unclosed_lasts-listed gs))
