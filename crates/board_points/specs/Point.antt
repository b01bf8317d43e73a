-- Points and rectangles of a square grid. Columns are counted from 0 at the left, rows from 0 at the top.
use Rattle.std.specs.Prelude.{◌≡◌, ℕ, ◌+◌, ◌*◌, ◌/◌, ◌%◌, ◌<◌, ◌≤◌, ◌⊎◌, Bool, ◌&&◌, ◌||◌, ◌==◌, List, map}
use Rattle.std.specs.List.{range_with_len}
pub use Rattle.board_points.specs.declared.points.Point.{Point}
pub use Rattle.board_points.specs.declared.points.Rect.{Rect}

-- the point is on the grid of that side
abbrev pub IsOn : ℕ → Point → Type 0
IsOn side point = (point.col < side) × (point.row < side)

-- one of the two numbers is the other plus 1
abbrev pub DifferByOne : ℕ → ℕ → Type 0
DifferByOne a b = (a + 1 ≡ b) ⊎ (b + 1 ≡ a)

-- the points are side by side, in a column or in a row
abbrev pub AreAdjacent : Point → Point → Type 0
AreAdjacent point other =
    ((point.col ≡ other.col) × DifferByOne point.row other.row)
    ⊎ ((point.row ≡ other.row) × DifferByOne point.col other.col)

-- the same, as a test
abbrev pub are_adjacent : Point → Point → Bool
are_adjacent point other =
    ((point.col == other.col) && ((point.row + 1 == other.row) || (other.row + 1 == point.row)))
    || ((point.row == other.row) && ((point.col + 1 == other.col) || (other.col + 1 == point.col)))

-- both corners are on the grid, and the first is the upper left one
abbrev pub IsRectOn : ℕ → Rect → Type 0
IsRectOn side rect =
    IsOn side rect.first × IsOn side rect.last × (rect.first.col ≤ rect.last.col) × (rect.first.row ≤ rect.last.row)

-- the index of a point, from 0, in the list of the points row by row from the top, from left to right
abbrev pub index_of : ℕ → Point → ℕ
index_of side point = point.row * side + point.col

-- the point at an index
abbrev pub point_at : ℕ → ℕ → Point
point_at side index = record { col = index % side; row = index / side }

-- the points of the grid, row by row from the top, from left to right
unfoldable pub points : ℕ → List Point
points side = map (point_at side) (range_with_len 0 (side * side))
