-- Worked examples: the machine computes the collections of a few texts.
use Rattle.sgf_tree.proofs.Common.{◌≡◌, ℕ, [], ◌∷◌, Some, None, refl, next_state, run, accepted, collection_of, Node, no_games, game, leaf_count}

abbrev bare : ℕ → Node
bare at = record { place = at; properties = [] }

-- `(;)`
smallest : collection_of (40 ∷ 59 ∷ 41 ∷ []) ≡ Some (game (bare 1) [] no_games no_games)
unfolding collection_of accepted run next_state
smallest = refl

-- `(;(;)(;))`
variations : collection_of (40 ∷ 59 ∷ 40 ∷ 59 ∷ 41 ∷ 40 ∷ 59 ∷ 41 ∷ 41 ∷ [])
    ≡ Some (game (bare 1) [] (game (bare 3) [] no_games (game (bare 6) [] no_games no_games)) no_games)
unfolding collection_of accepted run next_state
variations = refl

-- a byte order mark, and ` (;GaM[a\]][b];)(;)` with white space after it
choices : collection_of (239 ∷ 187 ∷ 191 ∷ 32 ∷ 40 ∷ 59 ∷ 71 ∷ 97 ∷ 77 ∷ 91 ∷ 97 ∷ 92 ∷ 93 ∷ 93 ∷ 91 ∷ 98 ∷ 93 ∷ 59 ∷ 41 ∷ 40 ∷ 59 ∷ 41 ∷ 32 ∷ 10 ∷ [])
    ≡ Some (game
    (record { place = 5; properties = record { name = 71 ∷ 77 ∷ []; first = 97 ∷ 92 ∷ 93 ∷ []; more = (98 ∷ []) ∷ [] } ∷ [] })
    (bare 17 ∷ []) no_games (game (bare 20) [] no_games no_games))
unfolding collection_of accepted run next_state
choices = refl

-- an empty text, `()`, `(;`, `(;B)`, `(;))` and `(;(;);)` spell none
none : (collection_of [] ≡ None) × (collection_of (40 ∷ 41 ∷ []) ≡ None) × (collection_of (40 ∷ 59 ∷ []) ≡ None)
    × (collection_of (40 ∷ 59 ∷ 66 ∷ 41 ∷ []) ≡ None) × (collection_of (40 ∷ 59 ∷ 41 ∷ 41 ∷ []) ≡ None)
    × (collection_of (40 ∷ 59 ∷ 40 ∷ 59 ∷ 41 ∷ 59 ∷ 41 ∷ []) ≡ None)
unfolding collection_of accepted run next_state
none = (refl, refl, refl, refl, refl, refl)

-- the leaves of no games, and of `(;)`, `(;(;)(;))` and `(;(;(;)))(;)`
leaves : (leaf_count no_games ≡ 0) × (leaf_count (game (bare 1) [] no_games no_games) ≡ 1)
    × (leaf_count (game (bare 1) [] (game (bare 3) [] no_games (game (bare 6) [] no_games no_games)) no_games) ≡ 2)
    × (leaf_count (game (bare 1) [] (game (bare 3) [] (game (bare 5) [] no_games no_games) no_games) (game (bare 10) [] no_games no_games)) ≡ 2)
leaves = (refl, refl, refl, refl)
