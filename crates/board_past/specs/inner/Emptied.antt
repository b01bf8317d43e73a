-- Points that were emptied in a game. A stone that stays can bring a colouring back only on such a point.
use Rattle.std.specs.Prelude.{◌+◌, ◌<◌, ◌≤◌, false, All, length, reverse, slice_set, ◌≡◌, ◌≢◌, ℕ, Bool, IsFalse, IsTrue, List, [], ◌∷◌}
use Rattle.board_stones.specs.declared.stones.Cell.TheVariants.{Empty}
use Rattle.board_points.specs.declared.points.Point.{Point}
use Rattle.board_points.specs.Point.{IsOn}
use Rattle.board_stones.specs.Grid.{Grid, cell_at}
use Rattle.board_stones.specs.Clearing.{has_unreaching}
use Rattle.board_past.specs.Past.{Held, PastColourings, all_of, newest_grid}
use Rattle.board_past.specs.inner.Changes.{is_full}
use Rattle.board_past.specs.declared.past.print_past.emptied.Emptied.{Emptied}
use Rattle.board_past.specs.declared.past.print_past.emptied.OldRow.{OldRow}
use Rattle.board_past.specs.declared.past.print_past.table.Table.{Table}
use Rattle.board_past.specs.inner.Table.{IsTable}
use Rattle.board_past.specs.inner.Key.{oldest}
use Rattle.board_points.specs.Rows.{is_set}

-- the set has each point that has a stone on the grid `before` and none on the grid `after`
abbrev pub HasEmptied : (Point → Bool) → Grid → Grid → Type 0
HasEmptied set before after =
    (point : Point) → IsOn before.side point → cell_at before point ≢ Empty → cell_at after point ≡ Empty
    → IsTrue (set point)

-- The set has each point that was emptied from one of these colourings to the next one of its stretch. The list is newest first.
abbrev pub HasAllEmptied : (Point → Bool) → List Held → Type 0
HasAllEmptied set [] = Unit {0}
HasAllEmptied set (later ∷ []) = Unit {0}
HasAllEmptied set (later ∷ (earlier ∷ others)) =
    (IsFalse later.begins → HasEmptied set earlier.colouring later.colouring) × HasAllEmptied set (earlier ∷ others)

-- The set `rows` has all points that were emptied. Each old row, newest first, leads back to the set of an earlier time, which has all that
-- were emptied up to the colouring with its number.
abbrev pub HasHistory : List ℕ → List OldRow → List Held → Type 0
HasHistory rows [] held = HasAllEmptied (is_set rows) held
HasHistory rows (last ∷ older) held =
    HasAllEmptied (is_set rows) held × (last.number ≤ length held)
    × HasHistory (slice_set rows last.row last.word) older (oldest last.number held)

-- the numbers of old rows, newest first, don't rise, and all are below that
abbrev pub IsBelow : List OldRow → ℕ → Type 0
IsBelow [] count = Unit {0}
IsBelow (last ∷ older) count = (last.number < count) × IsBelow older (last.number + 1)

abbrev pub HasRowsBelow : List OldRow → Type 0
HasRowsBelow log = All (λ old. old.row < 52) log

-- what is kept of the points that were emptied in the steps to these colourings; all old rows are of numbers below `count`
pub record IsLogged (held : List Held) (count : ℕ) (emptied : Emptied) : Type 0 where
  pub rows : length emptied.rows ≡ 52
  pub inside : HasRowsBelow emptied.log.items
  pub history : HasHistory emptied.rows (reverse emptied.log.items) held
  pub below : IsBelow (reverse emptied.log.items) count

-- the same between steps: no old row is of the step to the next colouring
abbrev pub IsEmptied : List Held → Emptied → Type 0
IsEmptied held emptied = IsLogged held (length held) emptied

-- A stone may be played at once if there were fewer steps than this: the newest colouring is settled, the table sleeps and has room, and no
-- step from the next one up to that number is full.
pub record ArePlayedAtOnce (past : PastColourings) (table : Table) (below : ℕ) : Type 0 where
  pub settled : 0 < below → has_unreaching (newest_grid past) ≡ false
  pub asleep : 0 < below → below < table.room_asleep
  pub not_full : (count : ℕ) → length past.older ≤ count → count < below → IsFalse (is_full count)

-- what a past keeps besides its colourings: the table by which they are looked up, a set of rows that has each emptied point, and a number
-- of steps below which a stone may be played at once
pub record IsPrintPast (colourings : PastColourings) (table : Table) (emptied : Emptied) (below : ℕ) : Type 0 where
  pub tabled : IsTable (all_of colourings) table
  pub emptied_in : IsEmptied (all_of colourings) emptied
  pub at_once : ArePlayedAtOnce colourings table below
