-- How a collection is stored as a list, so that it can be the value of a model. For each game its token comes first, then the
-- tokens of the games below it, then those of the games after it. This says nothing of what a text means.
use Rattle.std.specs.Prelude.{◌≡◌, ℕ, List, [], ◌∷◌, ◌++◌, Option, Some, None, refl}
use Rattle.std.specs.Coded.{Coded, code_by, coded×, coded_ℕ, coded_list, coded_option}
use Rattle.std.proofs.Common.{◌∙◌, ap, sym, append_assoc, append-nil}
use Rattle.sgf_outline.specs.Tree.{Property, Node, Games, no_games, game}
use Rattle.sgf_outline.specs.NodesLeft.{NodesLeft}
use Rattle.sgf_properties.specs.inner.PropertyCode.{property_code, properties_code}

-- a node is stored as its place and its properties
abbrev pub node_code : Coded Node
node_code =
    code_by (ℕ × List Property) (coded× coded_ℕ (coded_list property_code)) (λ n. (n.place, n.properties)) (λ parts. record { place = parts.0; properties = parts.1 }) (λ _. refl)

abbrev pub nodes_code : Coded (List Node)
nodes_code = coded_list node_code

-- what is left of a sequence is stored as its parts
abbrev pub nodes_left_code : Coded NodesLeft
nodes_left_code =
    code_by (List Property × List Node) (coded× properties_code nodes_code) (λ left. (left.properties, left.nodes)) (λ parts. record { properties = parts.0; nodes = parts.1 }) (λ _. refl)

-- a game's own nodes; None if there is no game
abbrev pub Token : Type 0
Token = Option (Node × List Node)

abbrev pub tokens : Games → List Token
tokens no_games = None ∷ []
tokens (game first more below after) = Some (first, more) ∷ (tokens below ++ tokens after)

-- a game with these own nodes: the first of the list is what is below it, the second what is after it
abbrev pub over_next : Node → List Node → List Games → List Games
over_next first more (below ∷ after ∷ rest) = game first more below after ∷ rest
over_next first more (below ∷ []) = []
over_next first more [] = []

-- the games of a list of tokens, read from the right end
abbrev pub games_of : List Token → List Games
games_of [] = []
games_of (None ∷ rest) = no_games ∷ games_of rest
games_of (Some own ∷ rest) = over_next own.0 own.1 (games_of rest)

-- the first of these games
abbrev pub first_games : List Games → Games
first_games [] = no_games
first_games (games ∷ rest) = games

pub games_of-tokens : (games : Games) (rest : List Token) → games_of (tokens games ++ rest) ≡ games ∷ games_of rest
games_of-tokens no_games rest = refl
games_of-tokens (game first more below after) rest =
    ap (λ ts. over_next first more (games_of ts)) (append_assoc (tokens below) (tokens after) rest)
    ∙ ap (over_next first more) (games_of-tokens below (tokens after ++ rest))
    ∙ ap (λ gs. over_next first more (below ∷ gs)) (games_of-tokens after rest)

pub first_games-tokens : (games : Games) → first_games (games_of (tokens games)) ≡ games
first_games-tokens games =
    ap (λ ts. first_games (games_of ts)) (sym (append-nil (tokens games))) ∙ ap first_games (games_of-tokens games [])

abbrev pub games_code : Coded Games
games_code =
    code_by (List Token) (coded_list (coded_option (coded× node_code (coded_list node_code)))) tokens (λ ts. first_games (games_of ts)) first_games-tokens
