-- Sets of a board's points by what stands on them, as rows of words.
use Rattle.std.specs.Prelude.{◌≡◌, ◌==◌, ◌≤◌, ℕ, length, Bool, false, ◌&&◌, ◌||◌, IsTrue, if◌then◌else◌, List}
use Rattle.board_stones.specs.declared.stones.Cell.{Cell}
use Rattle.board_stones.specs.declared.stones.Cell.TheVariants.{Black, White, Empty}
use Rattle.board_points.specs.declared.size.TheConstants.{MAX_ROWS}
use Rattle.board_points.specs.declared.points.Point.{Point}
use Rattle.board_stones.specs.Colour.{same_cell}
use Rattle.board_points.specs.Point.{IsOn}
use Rattle.board_stones.specs.Grid.{Grid, cell_at, grid_of}
use Rattle.board_stones.specs.Reaching.{reaches}
use Rattle.board_points.specs.Rows.{has_bit, is_set}

-- the cell is one of the two
abbrev pub is_either : Cell → Cell → Cell → Bool
is_either cell one other = same_cell cell one || same_cell cell other

-- what stands on a point, by the rows of the black stones and those of the white ones
abbrev pub stone_in : List ℕ → List ℕ → Point → Cell
stone_in black white point = if is_set black point then Black else (if is_set white point then White else Empty)

-- the grid of that side with the stones of some rows
abbrev pub grid_with : ℕ → List ℕ → List ℕ → Grid
grid_with side black white = grid_of side (stone_in black white)

-- the rows have stones of a board of that side alone, and no point has two; there are as many rows as the largest board has
pub record AreStones (side : ℕ) (black white : List ℕ) : Type 0 where
  pub few : side ≤ MAX_ROWS
  pub black_rows : length black ≡ MAX_ROWS
  pub white_rows : length white ≡ MAX_ROWS
  pub black_on : (point : Point) → IsTrue (is_set black point) → IsOn side point
  pub white_on : (point : Point) → IsTrue (is_set white point) → IsOn side point
  pub apart : (point : Point) → IsTrue (is_set black point) → is_set white point ≡ false

-- the grid with the cell on the points of a row that are in a set of columns
unfoldable pub with_columns : Grid → ℕ → ℕ → Cell → Grid
with_columns grid row columns cell =
    grid_of grid.side (λ point. if (point.row == row) && has_bit columns point.col then cell else cell_at grid point)

-- a point of the wanted colour, or one of the colour `own` that reaches it
abbrev pub reaches_through_own : Grid → Cell → Cell → Point → Bool
reaches_through_own grid own wanted point = is_either (cell_at grid point) own wanted && reaches grid wanted point
