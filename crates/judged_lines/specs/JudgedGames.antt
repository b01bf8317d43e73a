-- Which games are judged: games of Go, on a square board of a size that boards can have (SGF FF[4], GM and SZ).
use Rattle.std.specs.Prelude.{ℕ, Bool, true, false, ◌==◌, ◌&&◌, nat_le, if◌then◌else◌, Option, Some, None, List, [], ◌∷◌, codes, ℤ, pos, negsuc}
use Rattle.sgf_outline.specs.Tree.{Property, Node}
use Rattle.sgf_properties.specs.Number.{number_of}
use Rattle.board_points.specs.declared.size.TheConstants.{MAX_SIDE}
use Rattle.judged_lines.specs.NodeContents.{first_value}

-- the properties of a line's first node, the root of its game
abbrev pub root_properties : List Node → List Property
root_properties [] = []
root_properties (root ∷ more) = root.properties

-- whether a number is 1, the value of GM for Go
abbrev pub is_one : Option ℤ → Bool
is_one (Some (pos n)) = n == 1
is_one (Some (negsuc n)) = false
is_one None = false

-- whether the game is Go: GM is the number 1, or absent
abbrev pub is_go : Option (List ℕ) → Bool
is_go None = true
is_go (Some raw) = is_one (number_of raw)

-- the side of a square board that a number gives, from 1 to MAX_SIDE
abbrev pub side_from : Option ℤ → Option ℕ
side_from (Some (pos n)) = if nat_le 1 n && nat_le n MAX_SIDE then Some n else None
side_from (Some (negsuc n)) = None
side_from None = None

-- the side that SZ gives; 19 if there is no SZ
abbrev pub side_of : Option (List ℕ) → Option ℕ
side_of None = Some 19
side_of (Some raw) = side_from (number_of raw)

-- what the root says: a game other than Go, a size that no board can have, or a board of that side
pub data GameKind : Type 0 where
  not_go : GameKind
  bad_size : GameKind
  board : (side : ℕ) → GameKind

abbrev pub game_kind_on : Option ℕ → GameKind
game_kind_on None = bad_size
game_kind_on (Some side) = board side

-- The kind of a game, by the properties of its root. A game that isn't Go is `not_go` even if its size
-- is faulty. GM and SZ of other nodes have no effect. Both are this project's choices.
abbrev pub game_kind : List Property → GameKind
game_kind properties =
    if is_go (first_value (codes "GM") properties) then game_kind_on (side_of (first_value (codes "SZ") properties)) else not_go
