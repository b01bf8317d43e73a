-- The stones of a row that are linked within the row.
use Rattle.std.specs.Prelude.{◌≡◌, ◌⊎◌, ◌+◌, ℕ, false, IsTrue, List, slice_index}
use Rattle.board_points.specs.declared.points.Point.{Point}
use Rattle.board_points.specs.Rows.{has_bit, is_set}
use Rattle.board_points.specs.inner.Columns.{HasBeside, IsPart}
use Rattle.board_points.specs.Linked.{IsLinked, HasLiberty, IsStone}

-- the word has the columns of the stones in the row of the stone on `from` that are linked to it within the row
pub record IsJoined (own : List ℕ) (from : Point) (word : ℕ) : Type 0 where
  pub start : IsTrue (has_bit word from.col)
  pub within : IsPart (has_bit word) (has_bit (slice_index own from.row))
  pub closed : HasBeside (has_bit (slice_index own from.row)) (has_bit word)
  pub linked : (col : ℕ) → IsTrue (has_bit word col) → IsLinked (is_set own) from (record { col = col; row = from.row })

-- the stones in the row of the stone on `from` that are linked to it within the row; none of them has a liberty
pub record IsRowInDoubt (own others : List ℕ) (from : Point) (joined : ℕ) : Type 0 where
  pub stone : IsStone own others from
  pub linked : IsJoined own from joined
  pub shut : (col : ℕ) → IsTrue (has_bit joined col) → ¬ (HasLiberty own others (record { col = col; row = from.row }))

-- a stone of the group has a liberty
abbrev pub HasOneAlive : List ℕ → List ℕ → List ℕ → Type 0
HasOneAlive own others group = (stone : Point) × IsTrue (is_set group stone) × HasLiberty own others stone

-- no stone is straight above or below one of these columns of the row
abbrev pub HasNoneAcross : List ℕ → ℕ → ℕ → Type 0
HasNoneAcross own row joined =
    (point : Point) → (point.row + 1 ≡ row) ⊎ (row + 1 ≡ point.row) → IsTrue (has_bit joined point.col) → is_set own point ≡ false
