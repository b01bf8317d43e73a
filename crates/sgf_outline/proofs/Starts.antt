-- Where the sequences of games begin.
use Rattle.sgf_outline.proofs.Common.{◌≡◌, ℕ, ◌+◌, List, [], ◌∷◌, ◌++◌, None, length, get_or, Option, Some, refl, arith, length-append, rules, common_steps, OrderedNode, further_nodes, nodes_from, opening_numbers, sequence_starts, Node, Games, no_games, game, node_count}
use Rattle.sgf_outline.proofs.OrderedNodes.{length-further_nodes, length-nodes_from}

abbrev pub starts_from : ℕ → Games → List ℕ
starts_from at no_games = []
starts_from at (game first more below after) =
    at ∷ starts_from (at + length more + 1) below ++ starts_from (at + length more + 1 + node_count below) after

opening-append : (n : ℕ) (rs qs : List OrderedNode) → opening_numbers n (rs ++ qs) ≡ opening_numbers n rs ++ opening_numbers (n + length rs) qs
opening-append n [] qs = let e : n + 0 ≡ n = omega arith in rw e
opening-append n (r ∷ rs) qs = search (rules, (opening-append (n + 1) rs qs))

further-opens : (n last : ℕ) (ns : List Node) → opening_numbers n (further_nodes last ns) ≡ []
further-opens n last [] = refl
further-opens n last (m ∷ ns) = further-opens (n + 1) (last + 1) ns

starts-of : (at : ℕ) (parent : Option ℕ) (g : Games) → opening_numbers at (nodes_from at parent g) ≡ starts_from at g
starts-of at parent no_games = refl
starts-of at parent (game first more below after) =
    let last : ℕ = at + length more in
    grind (arith, common_steps, length-further_nodes, length-append, length-nodes_from, opening-append, further-opens, (starts-of (last + 1 + node_count below) parent after), (starts-of (last + 1) (Some last) below))

pub starts-are : (c : Games) → sequence_starts c ≡ starts_from 0 c
starts-are c = starts-of 0 None c

-- games begin with their first sequence
pub first-start : (at end : ℕ) (g : Games) → end ≡ at + node_count g → get_or (starts_from at g) 0 end ≡ at
first-start at end no_games e = omega (arith, e)
first-start at end (game first more below after) e = refl
