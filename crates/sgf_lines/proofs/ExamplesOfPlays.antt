-- Which places small collections touch, and which are judged, computed.
use Rattle.sgf_lines.proofs.Common.{Node, Games, no_games, game, lines, points, point_value, rect_value, clear, play, cleared_cell, reaches, reaching_within, spread, with_rectangle, score_of, counts_for, touched_places, all_judged_places, Form, page, plays_of, ◌≡◌, ℕ, List, [], ◌∷◌, map, Option, Some, None, refl, codes, option_map}
use Rattle.sgf_lines.specs.declared.options.Form.TheVariants.{List as list_form, Sgf as sgf_form, Gtp as gtp_form}

abbrev node : ℕ → List ℕ → List ℕ → Node
node place name value = record { place = place; properties = record { name = name; first = value; more = [] } ∷ [] }

-- (;SZ[3](;B[aa])(;B[bb];W[aa]))
abbrev variations : Games
variations =
    game (node 1 (codes "SZ") (codes "3")) []
    (game (node 8 (codes "B") (codes "aa")) [] no_games
    (game (node 16 (codes "B") (codes "bb")) (node 22 (codes "W") (codes "aa") ∷ []) no_games
    no_games))
    no_games

-- how many nodes are played for the page after a place, or for all lines
abbrev plays : Form → Option ℕ → Games → Option ℕ
plays form after c = option_map (plays_of form) (page (record { form = form; after = after; limit = None }) c)

-- (;SZ[1];B[aa](;W[])(;C[x]))
abbrev suicide : Games
suicide =
    game (node 1 (codes "SZ") (codes "1")) (node 7 (codes "B") (codes "aa") ∷ [])
    (game (node 14 (codes "W") []) [] no_games
    (game (node 20 (codes "C") (codes "x")) [] no_games
    no_games))
    no_games

-- (;SZ[3];B[](;W[])(;W[bb])(;AE[aa];W[]))
abbrev passes : Games
passes =
    game (node 1 (codes "SZ") (codes "3")) (node 7 (codes "B") [] ∷ [])
    (game (node 12 (codes "W") []) [] no_games
    (game (node 18 (codes "W") (codes "bb")) [] no_games
    (game (node 26 (codes "AE") (codes "aa")) (node 33 (codes "W") [] ∷ []) no_games
    no_games)))
    no_games

-- (;SZ[1])(;SZ[2])
abbrev two_games : Games
two_games = game (node 1 (codes "SZ") (codes "1")) [] no_games (game (node 9 (codes "SZ") (codes "2")) [] no_games no_games)

-- (;GM[2](;)(;))
abbrev not_go : Games
not_go =
    game (node 1 (codes "GM") (codes "2")) []
    (game (record { place = 8; properties = [] }) [] no_games
    (game (record { place = 11; properties = [] }) [] no_games
    no_games))
    no_games

each_node_is_touched : touched_places (lines variations) ≡ 1 ∷ 8 ∷ 16 ∷ 22 ∷ []
each_node_is_touched = refl

-- games, and the places of the nodes that are judged on their lines
abbrev judged : List (Games × List ℕ)
judged =
    -- each node once
    (variations, 1 ∷ 8 ∷ 16 ∷ 22 ∷ []) ∷
    -- none after the first node that is illegal, and none of another game
    (suicide, 1 ∷ 7 ∷ []) ∷
    (not_go, []) ∷
    []

each_judged : map (λ e. all_judged_places (lines e.0)) judged ≡ map (λ e. e.1) judged
unfolding reaching_within spread points reaches clear cleared_cell play score_of counts_for with_rectangle point_value rect_value
each_judged = refl

-- forms, places and games, and how many nodes are played
abbrev played : List (Form × Option ℕ × Games × ℕ)
played =
    -- each node once
    (list_form, None, variations, 4) ∷
    -- the second line alone, and no line
    (gtp_form, Some 8, variations, 3) ∷
    (list_form, Some 22, variations, 0) ∷
    -- none in the sgf form, after an illegal node, and of another game
    (sgf_form, None, variations, 0) ∷
    (list_form, None, suicide, 2) ∷
    (list_form, None, not_go, 0) ∷
    -- a setup, and each of two games
    (list_form, None, passes, 6) ∷
    (gtp_form, None, two_games, 2) ∷
    []

each_played : map (λ e. plays e.0 e.1 e.2) played ≡ map (λ e. Some e.3) played
unfolding reaching_within spread points reaches clear cleared_cell play score_of counts_for with_rectangle point_value rect_value
each_played = refl
