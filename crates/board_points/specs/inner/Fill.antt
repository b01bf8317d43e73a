-- Filling a set of points within a region, row by row.
use Rattle.std.specs.Prelude.{◌≡◌, ◌⊎◌, ℕ, ◌+◌, ◌-◌, ◌^◌, ◌<◌, false, IsTrue, List, length, slice_index, sum_by, zero, suc}
use Rattle.board_points.specs.declared.fill.Direction.{Direction}
use Rattle.board_points.specs.declared.fill.Direction.TheVariants.{Up, Down}
use Rattle.board_points.specs.Rows.{has_bit, is_set, Grows}
use Rattle.board_points.specs.inner.Columns.{HasBeside, IsTaken}

-- the row above a row; above the first row no bit is set
abbrev pub row_above : List ℕ → ℕ → ℕ
row_above rows zero = 0
row_above rows (suc row) = slice_index rows row

-- the row `next` comes after a row in a direction
abbrev pub IsNext : Direction → ℕ → ℕ → Type 0
IsNext Up row next = next + 1 ≡ row
IsNext Down row next = row + 1 ≡ next

abbrev pub opposite : Direction → Direction
opposite Up = Down
opposite Down = Up

-- each flagged row is one of the first `count` rows
abbrev pub AreRowsBelow : ℕ → ℕ → Type 0
AreRowsBelow count flags = (row : ℕ) → IsTrue (has_bit flags row) → row < count

-- Each row that isn't flagged has given its points to the next row in a direction: the next row has each column of the region that the
-- row has. Only the row `at` has some columns left to give.
abbrev pub HaveGivenBut : Direction → List ℕ → List ℕ → ℕ → ℕ → ℕ → Type 0
HaveGivenBut direction region rows flags at given =
    (row next : ℕ) → IsNext direction row next → has_bit flags row ≡ false → (col : ℕ) → IsTrue (has_bit (slice_index region next) col)
    → IsTrue (has_bit (slice_index rows row) col) → IsTrue (has_bit (slice_index rows next) col) ⊎ ((row ≡ at) × IsTrue (has_bit given col))

-- the same, with nothing left to give
abbrev pub HaveGiven : Direction → List ℕ → List ℕ → ℕ → Type 0
HaveGiven direction region rows flags =
    (row next : ℕ) → IsNext direction row next → has_bit flags row ≡ false → IsTaken region rows next (slice_index rows row)

-- `rows` was filled from `first` within `region`, but for what rows can still give: those in `flags` and the row `at` in a direction,
-- those in `back` in the opposite one.
pub record IsFilledBut (region first rows : List ℕ) (direction : Direction) (flags back at given : ℕ) : Type 0 where
  pub all : length rows ≡ length region
  pub grows : Grows (is_set region) (is_set first) (is_set rows)
  pub wide : (row : ℕ) → HasBeside (has_bit (slice_index region row)) (has_bit (slice_index rows row))
  pub flags_in : AreRowsBelow (length region) flags
  pub back_in : AreRowsBelow (length region) back
  pub ahead : HaveGivenBut direction region rows flags at given
  pub behind : HaveGiven (opposite direction) region rows back

-- what the words lack to be full: the more bits are set, the less they lack
abbrev pub lacking : List ℕ → ℕ
lacking rows = sum_by (λ word. 2 ^ 64 - word) rows

-- the rows got more points, or else nothing changed, and no other rows are flagged
abbrev pub HaveMore : List ℕ → List ℕ → ℕ → ℕ → Type 0
HaveMore old new back flags = ((new ≡ old) × (flags ≡ back)) ⊎ (lacking new < lacking old)
