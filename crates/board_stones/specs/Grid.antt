-- The colouring of a square board.
use Rattle.std.specs.Prelude.{ℕ, ◌*◌, ◌==◌, if◌then◌else◌, List, map, replicate, slice_index_or, slice_set}
use Rattle.board_stones.specs.declared.stones.Cell.{Cell}
use Rattle.board_stones.specs.declared.stones.Cell.TheVariants.{Black, White, Empty}
use Rattle.board_points.specs.declared.points.Point.{Point}
use Rattle.board_points.specs.Point.{index_of, points}
use Rattle.board_points.specs.Rows.{has_bit}

-- the side, and a cell for each point, row by row from the top, from left to right
pub record Grid : Type 0 where
  pub side : ℕ
  pub cells : List Cell

-- what stands on a point
abbrev pub cell_at : Grid → Point → Cell
cell_at grid point = slice_index_or grid.cells (index_of grid.side point) Empty

-- the empty grid of that side
abbrev pub empty_grid : ℕ → Grid
empty_grid side = record { side = side; cells = replicate (side * side) Empty }

-- the grid with the cell on that one point
abbrev pub with_cell : Grid → Point → Cell → Grid
with_cell grid point cell = record grid { cells = slice_set grid.cells (index_of grid.side point) cell }

-- the grid of that side whose points are coloured by the function
abbrev pub grid_of : ℕ → (Point → Cell) → Grid
grid_of side colour = record { side = side; cells = map colour (points side) }

-- The grid with these stones on a row, and no others on it. If a column is in both words, its stone is white.
unfoldable pub with_row : Grid → ℕ → ℕ → ℕ → Grid
with_row grid row black white =
    grid_of grid.side (λ point. if point.row == row
    then (if has_bit white point.col then White else (if has_bit black point.col then Black else Empty))
    else cell_at grid point)
