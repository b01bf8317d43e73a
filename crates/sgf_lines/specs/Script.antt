-- The script of a line: commands of the Go Text Protocol (GTP 2) that put the line on a board.
use Rattle.std.specs.Prelude.{ℕ, Bool, false, ◌==◌, ◌||◌, nat_lt, if◌then◌else◌, Option, Some, None, List, [], ◌∷◌, ◌++◌, filter, codes, decimal}
use Rattle.std.specs.List.{flat_map, list_any, slice_split}
use Rattle.sgf_outline.specs.Tree.{Node}
use Rattle.sgf_properties.specs.Bytes.{line_feed}
use Rattle.sgf_properties.specs.Text.{text_of}
use Rattle.board_stones.specs.declared.stones.Colour.TheVariants.{Black, White}
use Rattle.board_points.specs.declared.vertices.Vertex.{Vertex}
use Rattle.board_points.specs.declared.vertices.TheConstants.{MAX_VERTEX_SIDE}
use Rattle.board_stones.specs.declared.stones.Colour.{Colour}
use Rattle.board_stones.specs.Colour.{stone_of, same_cell}
use Rattle.board_points.specs.declared.points.Point.{Point}
use Rattle.board_points.specs.Point.{points}
use Rattle.board_stones.specs.Grid.{Grid, cell_at}
use Rattle.board_stones.specs.Clearing.{has_unreaching}
use Rattle.board_points.specs.Vertex.{vertex_of}
use Rattle.go_board.specs.declared.referee.plays.Play.TheVariants.{Pass, Stone}
use Rattle.go_board.specs.declared.referee.plays.Play.{Play}
use Rattle.go_board.specs.State.{State}
use Rattle.tree_lines.specs.Lines.{Line}
use Rattle.judged_lines.specs.NodeContents.{Move, Stones, moves, stones, first_value}
use Rattle.judged_lines.specs.NodeValues.{move_value}
use Rattle.judged_lines.specs.JudgedGames.{GameKind, not_go, bad_size, board, game_kind, root_properties}
use Rattle.judged_lines.specs.Walk.{LegalNode, Walk, walk}
use Rattle.sgf_lines.specs.ListRow.{list_row}

-- a row that is a comment
abbrev pub comment_row : List ℕ → List ℕ
comment_row piece = codes "# " ++ piece ++ codes "\n"

-- a text cut at each line feed: each piece is a comment row; an empty text has no row
abbrev pub text_rows : List ℕ → List ℕ
text_rows [] = []
text_rows (b ∷ bs) = flat_map comment_row (slice_split (λ c. c == line_feed) (b ∷ bs))

-- the decoded text of a node's comment; empty if there is none
abbrev pub comment_text : Option (List ℕ) → List ℕ
comment_text None = []
comment_text (Some raw) = text_of raw

-- the rows for a node's comment, which is the first value of its first C
abbrev pub comment_rows : Node → List ℕ
comment_rows node = text_rows (comment_text (first_value (codes "C") node.properties))

-- B or W
abbrev pub colour_letter : Colour → List ℕ
colour_letter Black = codes "B"
colour_letter White = codes "W"

-- a vertex as it is written, or `pass`
abbrev pub vertex_text : Vertex → List ℕ
vertex_text vertex = vertex.letter ∷ decimal vertex.row

abbrev pub play_text : ℕ → Play → List ℕ
play_text side Pass = codes "pass"
play_text side (Stone point) = vertex_text (vertex_of point side)

abbrev pub play_command : ℕ → Colour → Play → List ℕ
play_command side colour play = codes "play " ++ colour_letter colour ++ codes " " ++ play_text side play ++ codes "\n"

-- the points of a colour, row by row from the top, from left to right
abbrev pub stones_on : Grid → Colour → List Point
stones_on grid colour = filter (λ point. same_cell (cell_at grid point) (stone_of colour)) (points grid.side)

abbrev pub stone_commands : Grid → Colour → List ℕ
stone_commands grid colour = flat_map (λ point. play_command grid.side colour (Stone point)) (stones_on grid colour)

-- a whole colouring: all black stones, then all white ones
abbrev pub colouring_commands : Grid → List ℕ
colouring_commands grid = codes "clear_board\n" ++ stone_commands grid Black ++ stone_commands grid White

-- the commands for the colouring after a node, if the node has stones
abbrev pub setup_commands : Grid → List Stones → List ℕ
setup_commands grid [] = []
setup_commands grid (value ∷ values) = colouring_commands grid

-- the command for a node's play, if its move has one
abbrev pub move_commands_by : ℕ → Colour → Option Play → List ℕ
move_commands_by side colour None = []
move_commands_by side colour (Some play) = play_command side colour play

abbrev pub move_commands : ℕ → List Move → List ℕ
move_commands side moves = flat_map (λ move. move_commands_by side move.player (move_value move.raw side)) moves

-- what a node adds to the script if its step leads to the state `after`
abbrev pub node_script : State → Node → List ℕ
node_script after node =
    let grid : Grid = after.colouring in
    comment_rows node ++ setup_commands grid (stones node) ++ move_commands grid.side (moves node)

abbrev pub legal_script : LegalNode → List ℕ
legal_script taken = node_script taken.after taken.node

-- whether a node's setup leaves a stone without a liberty on the board; no moves lead to such a board
abbrev pub leaves_unreaching_by : Grid → List Stones → Bool
leaves_unreaching_by grid [] = false
leaves_unreaching_by grid (value ∷ values) = has_unreaching grid

abbrev pub leaves_unreaching : LegalNode → Bool
leaves_unreaching taken = leaves_unreaching_by taken.after.colouring (stones taken.node)

-- whether a walk can't be written as commands: the board has more columns than
-- GTP has letters, or some setup leaves a stone without a liberty
abbrev pub has_no_commands : ℕ → Walk → Bool
has_no_commands side walked = nat_lt MAX_VERTEX_SIDE side || list_any leaves_unreaching walked.taken

-- the commands before those of the first node
abbrev pub board_commands : ℕ → List ℕ
board_commands side = codes "boardsize " ++ decimal side ++ codes "\nclear_board\n"

-- the commands of a walk: those of all nodes before the illegal one
abbrev pub commands_of : ℕ → Walk → List ℕ
commands_of side walked =
    if has_no_commands side walked then [] else board_commands side ++ flat_map legal_script walked.taken

-- a line that isn't judged has no commands
abbrev pub commands_by : GameKind → List Node → List ℕ
commands_by not_go nodes = []
commands_by bad_size nodes = []
commands_by (board side) nodes = commands_of side (walk side nodes)

-- the line's row as a comment, its commands, and an empty row
abbrev pub script : Line → List ℕ
script line =
    comment_row (list_row line) ++ commands_by (game_kind (root_properties line.nodes)) line.nodes ++ codes "\n"
