-- How an engine of the Go Text Protocol (GTP 2) follows a script, worked out from the bytes of the script: one command per row,
-- from the top. The engine begins without a board, and plays stones by the Tromp-Taylor rules.
use Rattle.std.specs.Prelude.{ℕ, Bool, true, false, ◌-◌, ◌==◌, ◌||◌, ◌&&◌, nat_le, nat_lt, if◌then◌else◌, Option, Some, None, option_map, option_and_then, List, [], ◌∷◌, filter, map, fold, codes, bytes_eq}
use Rattle.std.specs.List.{slice_split, position}
use Rattle.sgf_properties.specs.Bytes.{space, line_feed, capital_a, small_a, small_z}
use Rattle.sgf_properties.specs.Number.{magnitude_of}
use Rattle.board_stones.specs.declared.stones.Colour.TheVariants.{Black, White}
use Rattle.board_points.specs.declared.points.Point.{Point}
use Rattle.board_points.specs.declared.vertices.Vertex.{Vertex}
use Rattle.board_points.specs.declared.vertices.TheConstants.{MAX_VERTEX_SIDE}
use Rattle.board_stones.specs.declared.stones.Colour.{Colour}
use Rattle.board_stones.specs.Colour.{same_cell}
use Rattle.board_stones.specs.declared.stones.Cell.TheVariants.{Empty}
use Rattle.board_stones.specs.Grid.{Grid, cell_at, empty_grid}
use Rattle.board_stones.specs.Clearing.{play}
use Rattle.board_points.specs.Vertex.{column_letters}

-- `#`
abbrev pub number_sign : ℕ
number_sign = 35

-- what stands before a comment; a `#` begins a comment
abbrev pub before_comment : List ℕ → List ℕ
before_comment [] = []
before_comment (b ∷ bs) = if b == number_sign then [] else b ∷ before_comment bs

abbrev pub is_word : List ℕ → Bool
is_word [] = false
is_word (b ∷ bs) = true

-- the words of a row, between spaces
abbrev pub words : List ℕ → List (List ℕ)
words row = filter is_word (slice_split (λ b. b == space) (before_comment row))

-- a letter as a capital, any other byte as it is: colours and vertices may be written in either case
abbrev pub capital : ℕ → ℕ
capital b = if nat_le small_a b && nat_le b small_z then b - (small_a - capital_a) else b

-- the player that a word names
abbrev pub colour_named : List ℕ → Option Colour
colour_named word =
    let name = map capital word in
    if bytes_eq name (codes "B") || bytes_eq name (codes "BLACK") then Some Black
    else (if bytes_eq name (codes "W") || bytes_eq name (codes "WHITE") then Some White else None)

-- the vertex that a word names, by its column's letter and its row's number; `pass` names none
abbrev pub vertex_named : List ℕ → Option Vertex
vertex_named [] = None
vertex_named (letter ∷ digits) = option_map (λ number. record { letter = capital letter; row = number }) (magnitude_of digits)

-- what a row asks for: a size, an empty board, a stone, or nothing
pub data Command : Type 0 where
  sets_size : (side : ℕ) → Command
  clears : Command
  plays_stone : (colour : Colour) (vertex : Vertex) → Command
  does_nothing : Command

abbrev pub size_command : Option ℕ → Command
size_command (Some side) = sets_size side
size_command None = does_nothing

abbrev pub play_command_of : Option Colour → Option Vertex → Command
play_command_of (Some colour) (Some vertex) = plays_stone colour vertex
play_command_of (Some colour) None = does_nothing
play_command_of None vertex = does_nothing

-- the command of a row's words: `clear_board`, `boardsize` with a number, `play` with a colour and a vertex; other words do nothing
abbrev pub command_of : List (List ℕ) → Command
command_of [] = does_nothing
command_of (name ∷ []) = if bytes_eq name (codes "clear_board") then clears else does_nothing
command_of (name ∷ first ∷ []) =
    if bytes_eq name (codes "boardsize") then size_command (magnitude_of first) else does_nothing
command_of (name ∷ first ∷ second ∷ []) =
    if bytes_eq name (codes "play") then play_command_of (colour_named first) (vertex_named second) else does_nothing
command_of (name ∷ first ∷ second ∷ third ∷ more) = does_nothing

-- An engine. It has no board before it gets a size. Then it has a board of that side, on which anything may stand until the board
-- is cleared. Then it shows a board. Once it has refused a command, it follows no more.
pub data Engine : Type 0 where
  no_board : Engine
  sized : (side : ℕ) → Engine
  shows : (board : Grid) → Engine
  refused : Engine

-- a size is accepted if the protocol has vertices for it
abbrev pub resized : ℕ → Engine
resized side = if nat_le 1 side && nat_le side MAX_VERTEX_SIDE then sized side else refused

abbrev pub after_size : Engine → ℕ → Engine
after_size no_board side = resized side
after_size (sized old) side = resized side
after_size (shows board) side = resized side
after_size refused side = refused

abbrev pub after_clear : Engine → Engine
after_clear no_board = refused
after_clear (sized side) = shows (empty_grid side)
after_clear (shows board) = shows (empty_grid board.side)
after_clear refused = refused

-- the point in this column (the leftmost is 0) and this row (the lowest is 1); None if the board has no such point
abbrev pub point_there : ℕ → ℕ → ℕ → Option Point
point_there side col number =
    if nat_lt col side && (nat_le 1 number && nat_le number side) then Some (record { col = col; row = side - number }) else None

abbrev pub point_of : ℕ → Vertex → Option Point
point_of side vertex =
    option_and_then (λ col. point_there side col vertex.row) (position (λ l. l == vertex.letter) column_letters)

-- a stone is played on an empty point of the board; a stone anywhere else is refused
abbrev pub after_stone : Grid → Colour → Option Point → Engine
after_stone board colour None = refused
after_stone board colour (Some point) =
    if same_cell (cell_at board point) Empty then shows (play board colour point) else refused

abbrev pub after_play : Engine → Colour → Vertex → Engine
after_play no_board colour vertex = refused
after_play (sized side) colour vertex = refused
after_play (shows board) colour vertex = after_stone board colour (point_of board.side vertex)
after_play refused colour vertex = refused

abbrev pub after_command : Engine → Command → Engine
after_command engine (sets_size side) = after_size engine side
after_command engine clears = after_clear engine
after_command engine (plays_stone colour vertex) = after_play engine colour vertex
after_command engine does_nothing = engine

-- the engine after one more row
abbrev pub after_row : Engine → List ℕ → Engine
after_row engine row = after_command engine (command_of (words row))

-- the engine after the rows of a text, from the top
abbrev pub after_text : Engine → List ℕ → Engine
after_text engine text = fold after_row engine (slice_split (λ b. b == line_feed) text)

-- an engine that begins without a board, after a whole script
abbrev pub replayed : List ℕ → Engine
replayed script = after_text no_board script
