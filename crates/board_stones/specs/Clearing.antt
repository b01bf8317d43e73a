-- Clearing a colour and playing a stone, by the Tromp-Taylor rules.
use Rattle.std.specs.Prelude.{◌≢◌, Bool, not, ◌&&◌, if◌then◌else◌}
use Rattle.std.specs.List.{list_any}
use Rattle.board_stones.specs.declared.stones.Cell.{Cell}
use Rattle.board_stones.specs.declared.stones.Cell.TheVariants.{Empty}
use Rattle.board_stones.specs.declared.stones.Colour.{Colour}
use Rattle.board_points.specs.declared.points.Point.{Point}
use Rattle.board_stones.specs.Colour.{opponent, stone_of, same_cell}
use Rattle.board_points.specs.Point.{IsOn, points}
use Rattle.board_stones.specs.Grid.{Grid, cell_at, with_cell, grid_of}
use Rattle.board_stones.specs.Reaching.{Reaches, reaches}

-- What stands on a point after a colour was cleared: nothing if it had that colour and didn't reach empty, else what stood there.
unfoldable pub cleared_cell : Grid → Colour → Point → Cell
cleared_cell grid colour point =
    if same_cell (cell_at grid point) (stone_of colour) && not (reaches grid Empty point) then Empty
    else cell_at grid point

-- The grid after a colour was cleared, which captures its groups without a liberty. Each point of the colour that doesn't
-- reach empty is made empty. All points are tested on the grid as it was.
unfoldable pub clear : Grid → Colour → Grid
clear grid colour = grid_of grid.side (cleared_cell grid colour)

-- Playing a stone: the point takes the player's colour. Then the opponent's colour is cleared, which
-- captures. Then the player's own colour is cleared, which is suicide. Suicide is legal. But the suicide
-- of a lone stone repeats the colouring before it, and is refused for that (Reason.antt of `go_board`).
unfoldable pub play : Grid → Colour → Point → Grid
play grid colour point = clear (clear (with_cell grid point (stone_of colour)) (opponent colour)) colour

-- some stone is shut, so it doesn't reach empty
abbrev pub HasUnreaching : Grid → Type 0
HasUnreaching grid =
    (point : Point) × IsOn grid.side point × (cell_at grid point ≢ Empty) × (¬ (Reaches grid Empty point))

-- the same, as a test
unfoldable pub has_unreaching : Grid → Bool
has_unreaching grid =
    list_any (λ point. not (same_cell (cell_at grid point) Empty) && not (reaches grid Empty point))
    (points grid.side)
