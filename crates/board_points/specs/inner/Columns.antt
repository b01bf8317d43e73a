-- Sets of columns of one row.
use Rattle.std.specs.Prelude.{◌≡◌, ◌⊎◌, ℕ, suc, ◌<◌, Bool, false, IsTrue, List, slice_index}
use Rattle.board_points.specs.Point.{DifferByOne}
use Rattle.board_points.specs.Rows.{has_bit}

-- each column of `some` is in `all`
abbrev pub IsPart : (ℕ → Bool) → (ℕ → Bool) → Type 0
IsPart some all = (col : ℕ) → IsTrue (some col) → IsTrue (all col)

-- the set has each column of the region that is beside one of its columns
abbrev pub HasBeside : (ℕ → Bool) → (ℕ → Bool) → Type 0
HasBeside region set =
    (col beside : ℕ) → DifferByOne col beside → IsTrue (region col) → IsTrue (set beside) → IsTrue (set col)

-- the set has each column of the region that is next after one of its columns
abbrev pub HasNext : (ℕ → Bool) → (ℕ → Bool) → Type 0
HasNext region set = (col : ℕ) → IsTrue (set col) → IsTrue (region (suc col)) → IsTrue (set (suc col))

-- The word has the seed's columns, and others of the region. Each set that has the seed and is closed within the region has
-- these others, too. If a column of the region comes next after a column of the word, the word has it.
pub record IsWidened (region seed word : ℕ) : Type 0 where
  pub within : IsPart (has_bit word) (has_bit region)
  pub kept : IsPart (has_bit seed) (has_bit word)
  pub next : HasNext (has_bit region) (has_bit word)
  pub least : (set : ℕ → Bool) → HasBeside (has_bit region) set → IsPart (has_bit seed) set → IsPart (has_bit word) set

-- the row has each column of `word` that the region has in this row
abbrev pub IsTaken : List ℕ → List ℕ → ℕ → ℕ → Type 0
IsTaken region rows row word =
    (col : ℕ) → IsTrue (has_bit (slice_index region row) col) → IsTrue (has_bit word col)
    → IsTrue (has_bit (slice_index rows row) col)

-- a column is in one of two rows, or beside a column of the row between them
abbrev pub IsInOrBeside : ℕ → ℕ → ℕ → ℕ → Type 0
IsInOrBeside above here below col =
    IsTrue (has_bit above col)
    ⊎ (IsTrue (has_bit below col) ⊎ ((beside : ℕ) × DifferByOne col beside × IsTrue (has_bit here beside)))

-- a column is missing from one of two rows, or one beside it is missing from the row between them
abbrev pub IsOpenBeside : ℕ → ℕ → ℕ → ℕ → Type 0
IsOpenBeside above here below col =
    (has_bit above col ≡ false)
    ⊎ ((has_bit below col ≡ false) ⊎ ((beside : ℕ) × (beside < 64) × DifferByOne col beside × (has_bit here beside ≡ false)))
