-- The lines of games after others are those of the others and then theirs, and what stands further on is judged alike.
use Rattle.sgf_lines.proofs.Common.{AllZip, common_steps, flat_map-append, map-append, length-map, slice_get-map, Node, Games, no_games, game, game_count, joined, Line, node_lines, lines_of_game, lines_from, lines, last_number, Verdict, verdict_of, record_of, HaveSame, SaysSame, scored, illegal_at, another_game, another_size, ◌≡◌, ◌≢◌, ℕ, ◌+◌, List, [], ◌∷◌, ◌++◌, map, refl, ap, arith, append_assoc, flat_map, Each, map-through}
use Rattle.sgf_tree.specs.Appending.{raised_node, raised}
use Rattle.sgf_lines.specs.declared.options.Form.TheVariants.{List as list_form}
use Rattle.sgf_lines.specs.Appending.{raised_verdict, raised_record}
use Rattle.tree_lines.specs.Paths.{Path, paths, IsPathOf}
use Rattle.sgf_lines.proofs.Again.{says_same}
use Rattle.tree_lines.proofs.LineNodes.{as_many}
use Rattle.tree_lines.proofs.Visits.{some_node, LeadsToLeaf, each_path}
use Rattle.tree_lines.proofs.Named.{each_named}

-- ---- games after others

lines-joined : (number : ℕ) (c d : Games) → lines_from number (joined c d) ≡ lines_from number c ++ lines_from (game_count c + number) d
lines-joined number no_games d = let same : number ≡ 0 + number = omega arith in ap (λ n. lines_from n d) same
lines-joined number (game first more below after) d = grind (arith, common_steps, lines-joined (number + 1) after d, append_assoc)

-- ---- games further on

-- a line `by` bytes further on, after so many games
abbrev raised_line : ℕ → ℕ → Line → Line
raised_line by games line = record { game_number = games + line.game_number; nodes = map (raised_node by) line.nodes }

node_lines-raised : (by : ℕ) (g : Games) → node_lines (raised by g) ≡ map (map (raised_node by)) (node_lines g)
node_lines-raised by no_games = refl
node_lines-raised by (game first more below after) =
    grind (arith, common_steps, node_lines-raised by below, map-through (raised_node by) (first ∷ more) (node_lines below), node_lines-raised by after, map-append)

lines_of_game-raised : (by games number : ℕ) (ways : List (List Node))
    → lines_of_game (games + number) (map (map (raised_node by)) ways) ≡ map (raised_line by games) (lines_of_game number ways)
lines_of_game-raised by games number [] = refl
lines_of_game-raised by games number (w ∷ ws) = ap (λ ls. raised_line by games (record { game_number = number; nodes = w }) ∷ ls) (lines_of_game-raised by games number ws)

lines-raised : (by games number : ℕ) (g : Games) → lines_from (games + number) (raised by g) ≡ map (raised_line by games) (lines_from number g)
lines-raised by games number no_games = refl
lines-raised by games number (game first more below after) =
    grind (arith, common_steps, node_lines-raised by below, map-through (raised_node by) (first ∷ more) (node_lines below), lines_of_game-raised, lines-raised by games (number + 1) after, map-append)

-- ---- Each line has a node.

abbrev IsFilled : Line → Type 0
IsFilled line = line.nodes ≢ []

filled_by : (c : Games) (ls : List Line) (ps : List Path) → AllZip (IsPathOf c) ls ps → Each (λ p. LeadsToLeaf c p.numbers) ps → Each IsFilled ls
filled_by c [] [] z h = tt
filled_by c [] (p ∷ ps) z h = absurd z
filled_by c (l ∷ ls) [] z h = absurd z
filled_by c (l ∷ ls) (p ∷ ps) z h = grind (arith, common_steps, some_node, as_many, (filled_by c ls ps z.1 h.1))

-- ---- What a row says of a line further on.

place-raised : (by : ℕ) (nodes : List Node) → nodes ≢ [] → last_number (map (λ n. n.place) (map (raised_node by) nodes)) ≡ by + last_number (map (λ n. n.place) nodes)
place-raised by [] h = absurd (h refl)
place-raised by (n ∷ []) h = refl
place-raised by (n ∷ m ∷ ms) h = place-raised by (m ∷ ms) (λ e. cc)

said-raised : (by : ℕ) (nodes : List Node) (told later : Verdict) → SaysSame nodes (map (raised_node by) nodes) told later → later ≡ raised_verdict by told
said-raised by nodes told later scored = refl
said-raised by nodes told later (illegal_at {turn} {reason} {node} {other} index here there) = grind (arith, common_steps, slice_get-map)
said-raised by nodes told later another_game = refl
said-raised by nodes told later another_size = refl

-- nodes further on have the same properties, and so the same verdict
all-raised : (by : ℕ) (nodes : List Node) → AllZip HaveSame nodes (map (raised_node by) nodes)
all-raised by [] = tt
all-raised by (n ∷ ns) = (refl, all-raised by ns)

verdict-raised : (by : ℕ) (nodes : List Node) → verdict_of (map (raised_node by) nodes) ≡ raised_verdict by (verdict_of nodes)
verdict-raised by nodes =
    said-raised by nodes (verdict_of nodes) (verdict_of (map (raised_node by) nodes)) (says_same nodes (map (raised_node by) nodes) (all-raised by nodes))

rows-raised : (by games : ℕ) (ls : List Line) → Each IsFilled ls
    → flat_map (λ line. record_of list_form line) (map (raised_line by games) ls) ≡ flat_map (λ line. raised_record by games line) ls
rows-raised by games [] h = refl
rows-raised by games (l ∷ ls) h = grind (arith, common_steps, place-raised, length-map, verdict-raised, (rows-raised by games ls h.1))

pub rows_joined : (c d : Games) (by : ℕ) → flat_map (λ line. record_of list_form line) (lines (joined c (raised by d)))
    ≡ flat_map (λ line. record_of list_form line) (lines c) ++ flat_map (λ line. raised_record by (game_count c) line) (lines d)
rows_joined c d by = grind (arith, common_steps, lines-joined 1 c (raised by d), filled_by d (lines d) (paths d) (each_named d) (each_path d), each_named d, each_path d, lines-raised, flat_map-append, rows-raised)
