-- What the words of bits around a point say about a player's stone that is put there, and about the stones beside it. The rows around
-- the point are counted from the second row above it: 0 and 1 are above it, 2 is its own, 3 and 4 are below it.
use Rattle.std.specs.Prelude.{◌≡◌, ◌≢◌, false, ℕ, ◌+◌, ◌<◌, IsTrue, List, length}
use Rattle.board_points.specs.declared.points.Point.{Point}
use Rattle.board_points.specs.declared.liberty.RowStones.{RowStones}
use Rattle.board_points.specs.Linked.{IsFree}
use Rattle.board_points.specs.Rows.{has_bit, is_set}

-- the word has the columns, of 64, that a board of that side doesn't have
pub record AreColumnsOff (side word : ℕ) : Type 0 where
  pub inside : (col : ℕ) → col < side → has_bit word col ≡ false
  pub outside : (col : ℕ) → col < 64 → has_bit word col ≡ false → col < side
  pub last : IsTrue (has_bit word 63)

-- the point is in the column `col` and in the row with this index around the row `middle`
abbrev pub IsInRowAround : ℕ → ℕ → ℕ → Point → Type 0
IsInRowAround middle index col point = (point.col ≡ col) × (point.row + 2 ≡ middle + index)

-- what is known of the columns of the row with this index around the row `middle`
pub record IsRowAt (own others : List ℕ) (middle index : ℕ) (row : RowStones) : Type 0 where
  pub are_free : (col : ℕ) → col < 64 → has_bit row.taken col ≡ false
      → (point : Point) × IsInRowAround middle index col point × IsFree own others point
  pub are_own : (col : ℕ) → IsTrue (has_bit row.own col)
      → (point : Point) × IsInRowAround middle index col point × IsTrue (is_set own point)
  pub has_others : (point : Point) → point.row + 2 ≡ middle + index → IsTrue (is_set others point)
      → IsTrue (has_bit row.others point.col)

-- each column that the word lacks is that of a free point in the row with this index around the point's row, and not of the point itself
abbrev pub AreFree : List ℕ → List ℕ → Point → ℕ → ℕ → Type 0
AreFree own others point index word =
    (col : ℕ) → col < 64 → has_bit word col ≡ false → (free : Point) × IsInRowAround point.row index col free × IsFree own others free × (free ≢ point)

-- what is known of the row with this index around the row `middle`, if each column with a stone is in `own_word` or in `others_word`
pub record IsNextRow (own others : List ℕ) (middle index own_word others_word : ℕ) : Type 0 where
  pub has_others : (point : Point) → point.row + 2 ≡ middle + index → IsTrue (is_set others point) → IsTrue (has_bit others_word point.col)
  pub is_free : (col : ℕ) → col < length own → has_bit own_word col ≡ false → has_bit others_word col ≡ false
      → (point : Point) × IsInRowAround middle index col point × IsFree own others point

-- a look at the row with the index `index + 1` around the point's row; `above` and `below` are taken columns of the rows before and after it
pub record IsLookedAt (own others : List ℕ) (point : Point) (index above : ℕ) (row : RowStones) (below : ℕ) : Type 0 where
  pub stones : IsRowAt own others point.row (index + 1) row
  pub free_above : AreFree own others point index above
  pub free_here : AreFree own others point (index + 1) row.taken
  pub free_below : AreFree own others point (index + 2) below
