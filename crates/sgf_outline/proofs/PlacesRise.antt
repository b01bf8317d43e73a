-- The places of a collection that a text spells rise strictly in file order, and each is within the text.
use Rattle.sgf_outline.proofs.Common.{◌≡◌, ℕ, ◌+◌, ◌-◌, ◌<◌, ◌≤◌, List, [], ◌∷◌, ◌++◌, length, Option, Some, None, map, slice_get, refl, ap, sym, ◌∙◌, arith, rules, map-append, slice_get-map, OrderedNode, further_nodes, nodes_from, ordered_nodes, place_at, PlacesRise, IsNode, node, AreNodes, no_node, nodes, AreGames, no_game, games, Spells, spells, Node, Games, no_games, game, node_count, all, end-drop, end-WhiteSpace, end-AreProperties}
use Rattle.sgf_outline.proofs.Rises.{Rises, rises-low, rises-append, rises-pair}
use Rattle.sgf_outline.proofs.Ends.{end-IsNode, end-AreNodes, end-AreGames, end-ByteOrderMark}

abbrev node_place : Node → ℕ
node_place n = n.place

-- the places in file order
abbrev places : Games → List ℕ
places no_games = []
places (game first more below after) = (first.place ∷ map node_place more ++ places below) ++ places after

abbrev place_in : OrderedNode → ℕ
place_in r = r.node.place

further-places : (last : ℕ) (ns : List Node) → map place_in (further_nodes last ns) ≡ map node_place ns
further-places last [] = refl
further-places last (n ∷ ns) = ap (λ ps. n.place ∷ ps) (further-places (last + 1) ns)

ordered-places : (at : ℕ) (parent : Option ℕ) (g : Games) → map place_in (nodes_from at parent g) ≡ places g
ordered-places at parent no_games = refl
ordered-places at parent (game first more below after) =
    let last = at + length more in
    search (rules, map-append, further-places, (ordered-places (last + 1) (Some last) below), (ordered-places (last + 1 + node_count below) parent after))

-- what lies between two ends of a text of `whole` bytes
rises-node : {whole : ℕ} {n : Node} {s r : List ℕ} → IsNode whole n s r → length s ≤ whole → (whole - length s ≤ n.place) × (n.place < whole - length r)
rises-node (node w e ps) le = let white = (end-drop (end-WhiteSpace w all)).0 in let own = (end-drop (end-AreProperties ps all)).0 in (omega arith, omega arith)

rises-nodes : {whole : ℕ} {ns : List Node} {s r : List ℕ} → AreNodes whole ns s r → length s ≤ whole → Rises (whole - length s) (map node_place ns) (whole - length r)
rises-nodes no_node le = omega arith
rises-nodes {whole} (nodes {n = m} {ns} {t = t} {r} n are) le =
    let x = (end-drop (end-IsNode n all)).0 in
    search (rules, rises-node, rises-low, (rises-nodes are (omega arith)))

rises-games : {whole : ℕ} {g : Games} {s r : List ℕ} → AreGames whole g s r → length s ≤ whole → Rises (whole - length s) (places g) (whole - length r)
rises-games no_game le = omega arith
rises-games {whole} (games {first} {more} {below} {after} {s = s} {inside = t} {children = v} {end = w} {outside = x} {r = r} d n ns g e f) le =
    let own : List ℕ = map node_place (first ∷ more) in
    let dl = (end-drop (end-WhiteSpace d all)).0 in
    let nl = (end-drop (end-AreNodes (nodes n ns) all)).0 in
    let gl = (end-drop (end-AreGames g all)).0 in
    let el = (end-drop (end-WhiteSpace e all)).0 in
    rises-low (whole - length s) (whole - length t) (places (game first more below after)) (whole - length r) (omega arith)
    (rises-append (whole - length t) (whole - length w) (whole - length r) (own ++ places below) (places after)
    (rises-append (whole - length t) (whole - length v) (whole - length w) own (places below) (rises-nodes (nodes n ns) (omega arith)) (rises-games g (omega arith)))
    (rises-low (whole - length w) (whole - length x) (places after) (whole - length r) (omega arith) (rises-games f (omega arith))))

rises-spelled : (c : Games) (t : List ℕ) → Spells c t → (low : ℕ) × (high : ℕ) × Rises low (places c) high
rises-spelled c t (spells {s = s} {r = r} m g w) = (length t - length s, length t - length r, rises-games g (omega (arith, (end-drop (end-ByteOrderMark m all)).0)))

place_at-places : (c : Games) (i : ℕ) → place_at c i ≡ slice_get (places c) i
place_at-places c i =
    sym (slice_get-map place_in (ordered_nodes c) i) ∙ ap (λ ps. slice_get ps i) (ordered-places 0 None c)

pub places-rise : (c : Games) (t : List ℕ) → Spells c t → PlacesRise c
places-rise c t s i j p q h e f = search (rules, rises-spelled, rises-pair, place_at-places)
