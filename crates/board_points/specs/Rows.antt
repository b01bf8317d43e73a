-- A set of points as a number for each row, with a bit for each column. This form is this project's choice.
use Rattle.std.specs.Prelude.{◌≡◌, ℕ, ◌<◌, Bool, false, ◌==◌, IsTrue, List, length, slice_index, not, ◌&&◌, count_by}
use Rattle.std.specs.Int.{bit_at}
use Rattle.board_points.specs.Point.{Point, AreAdjacent, IsOn, points}

-- the bit of a column is set
abbrev pub has_bit : ℕ → ℕ → Bool
has_bit word col = bit_at word col == 1

-- the bit of a point is set
abbrev pub is_set : List ℕ → Point → Bool
is_set rows point = has_bit (slice_index rows point.row) point.col

-- Sets of columns of one row.

-- the word has all columns of a row that has `side` columns
pub record AreAllColumns (side word : ℕ) : Type 0 where
  pub within : (col : ℕ) → col < side → IsTrue (has_bit word col)
  pub off : (col : ℕ) → IsTrue (has_bit word col) → col < side

-- Sets of points.

-- each point of `some` is in `all`
abbrev pub IsAmong : (Point → Bool) → (Point → Bool) → Type 0
IsAmong some all = (point : Point) → IsTrue (some point) → IsTrue (all point)

-- the set has each point of the region that is adjacent to one of its points
abbrev pub IsClosed : (Point → Bool) → (Point → Bool) → Type 0
IsClosed region set =
    (point other : Point) → AreAdjacent point other → IsTrue (region point) → IsTrue (set other) → IsTrue (set point)

-- `new` has the points of `old`, and other points of the region. Each closed set that has the points of `old` has these others, too.
pub record Grows (region old new : Point → Bool) : Type 0 where
  pub within : IsAmong new region
  pub kept : IsAmong old new
  pub least : (set : Point → Bool) → IsClosed region set → IsAmong old set → IsAmong new set

-- the rows are those of two sets of points of one board
pub record AreOfOneBoard (rows others : List ℕ) : Type 0 where
  pub same : length others ≡ length rows
  pub few : length rows < 64

-- a set without points on a board of that side
pub record HasNoPoint (side : ℕ) (rows : List ℕ) : Type 0 where
  pub all : length rows ≡ side
  pub none : (point : Point) → is_set rows point ≡ false

-- the rows are those of a set within a region of the same board
pub record IsWithin (rows region : List ℕ) : Type 0 where
  pub same : length rows ≡ length region
  pub few : length rows < 64
  pub within : IsAmong (is_set rows) (is_set region)

-- the rows have exactly the points of the grid that pass a test
pub record AreRowsOf (side : ℕ) (test : Point → Bool) (rows : List ℕ) : Type 0 where
  pub on : (point : Point) → IsOn side point → is_set rows point ≡ test point
  pub off : (point : Point) → IsTrue (is_set rows point) → IsOn side point

-- `left` has the points of `rows` that aren't in `others`
pub record IsDifference (rows others left : List ℕ) : Type 0 where
  pub on : (point : Point) → point.row < length rows → point.col < 64
      → is_set left point ≡ (is_set rows point && not (is_set others point))
  pub off : (point : Point) → IsTrue (is_set left point) → IsTrue (is_set rows point)

-- how many points of a square are in the set `rows` and not in the set `others`
unfoldable pub count_apart : ℕ → List ℕ → List ℕ → ℕ
count_apart side rows others = count_by (λ point. is_set rows point && not (is_set others point)) (points side)
