-- How the stones of a script are appended, point after point.
use Rattle.std.specs.Prelude.{◌≡◌, ℕ, if◌then◌else◌, List, [], ◌++◌, take}
use Rattle.std.specs.List.{flat_map}
use Rattle.go_board.specs.declared.referee.plays.Play.TheVariants.{Stone}
use Rattle.board_stones.specs.declared.stones.Colour.{Colour}
use Rattle.board_stones.specs.Colour.{stone_of, same_cell}
use Rattle.board_points.specs.declared.points.Point.{Point}
use Rattle.board_points.specs.Point.{points}
use Rattle.board_stones.specs.Grid.{Grid, cell_at}
use Rattle.sgf_lines.specs.Script.{play_command}

-- the command for a point, if the point has that colour
abbrev pub commands_at : Grid → Colour → Point → List ℕ
commands_at grid colour point =
    if same_cell (cell_at grid point) (stone_of colour) then play_command grid.side colour (Stone point) else []

-- the commands for the first `count` points were appended to a text
abbrev pub AreAppended : Grid → Colour → ℕ → List ℕ → List ℕ → Type 0
AreAppended grid colour count before text =
    text ≡ before ++ ([] ++ flat_map (commands_at grid colour) (take count (points grid.side)))
