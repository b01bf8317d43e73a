-- The definitions on small collections.
use Rattle.tree_lines.proofs.Common.{◌≡◌, ℕ, List, [], ◌∷◌, map, refl, codes, Property, Node, Games, no_games, game, lines, place_of, paths}

abbrev pub one : List ℕ → List ℕ → Property
one name value = record { name = name; first = value; more = [] }

abbrev pub node_with : ℕ → List Property → Node
node_with place ps = record { place = place; properties = ps }

-- (;SZ[3](;B[aa])(;B[bb];W[aa]))
abbrev pub variations : Games
variations =
    game (node_with 1 (one (codes "SZ") (codes "3") ∷ [])) []
    (game (node_with 8 (one (codes "B") (codes "aa") ∷ [])) [] no_games
    (game (node_with 16 (one (codes "B") (codes "bb") ∷ [])) (node_with 22 (one (codes "W") (codes "aa") ∷ []) ∷ []) no_games
    no_games))
    no_games

variations-paths : map (λ p. p.numbers) (paths variations) ≡ (0 ∷ 1 ∷ []) ∷ (0 ∷ 2 ∷ 3 ∷ []) ∷ []
variations-paths = refl

variations-places : map place_of (lines variations) ≡ 8 ∷ 22 ∷ []
variations-places = refl

-- (;SZ[1])(;SZ[2])
abbrev pub two_games : Games
two_games =
    game (node_with 1 (one (codes "SZ") (codes "1") ∷ [])) [] no_games
    (game (node_with 9 (one (codes "SZ") (codes "2") ∷ [])) [] no_games
    no_games)

two_games-paths : paths two_games ≡ record { game_number = 1; numbers = 0 ∷ [] } ∷ record { game_number = 2; numbers = 1 ∷ [] } ∷ []
two_games-paths = refl
