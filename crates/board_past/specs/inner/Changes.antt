-- Past colourings. The newest is kept whole. Of each older one, only what leads back to it is kept: the point of a stone that was put, or
-- rows. A change is one such row.
use Rattle.std.specs.Prelude.{◌≡◌, ◌≢◌, ◌⊎◌, ◌==◌, ℕ, suc, ◌+◌, ◌-◌, ◌*◌, ◌%◌, ◌<◌, ◌≤◌, Bool, if◌then◌else◌, List, [], ◌∷◌, ◌++◌, IsTrue, IsFalse, All, Contains, true, false, Option, Some, None, length, take, drop, reverse}
use Rattle.board_stones.specs.declared.stones.Cell.TheVariants.{Black, White, Empty}
use Rattle.board_stones.specs.declared.stones.Colour.{Colour}
use Rattle.board_points.specs.declared.points.Point.{Point}
use Rattle.board_points.specs.Point.{IsOn}
use Rattle.board_past.specs.declared.past.print_past.changes.Change.{Change}
use Rattle.board_past.specs.declared.past.print_past.changes.Known.{Known}
use Rattle.board_past.specs.declared.past.print_past.changes.Known.TheVariants.{Nothing, Settled, Fresh}
use Rattle.board_past.specs.declared.past.print_past.changes.Older.{Older}
use Rattle.board_past.specs.declared.past.print_past.changes.TheConstants.{FULL, MOST}
use Rattle.board_stones.specs.Colour.{same_cell}
use Rattle.board_stones.specs.Grid.{Grid, cell_at, with_cell, with_row}
use Rattle.board_stones.specs.Clearing.{has_unreaching, play}
use Rattle.board_past.specs.Past.{Held, PastColourings, newest_grid, stretch_of, with_next}
use Rattle.board_points.specs.Rows.{has_bit}

-- the first of these colourings
abbrev pub first_grid : List Held → Option Grid
first_grid [] = None
first_grid (first ∷ others) = Some first.colouring

-- the colouring with this number, counted from 0 at the oldest
abbrev pub IsNumber : List Held → ℕ → Grid → Type 0
IsNumber held number grid = first_grid (drop (length held - 1 - number) held) ≡ Some grid

-- a number of which the test holds is that colouring's
abbrev pub HasNumber : List Held → (ℕ → Type 0) → Grid → Type 0
HasNumber held test grid = (number : ℕ) × (number < length held) × test number × IsNumber held number grid

-- the grid with one row replaced by the row that the change keeps
abbrev pub with_change : Grid → Change → Grid
with_change grid change = with_row grid change.row change.black change.white

-- a change's row and all its stones are on a grid of that side
pub record IsChangeOn (side : ℕ) (change : Change) : Type 0 where
  pub row : change.row < side
  pub black : (col : ℕ) → IsTrue (has_bit change.black col) → col < side
  pub white : (col : ℕ) → IsTrue (has_bit change.white col) → col < side

-- the same of each change
abbrev pub AreOn : ℕ → List Change → Type 0
AreOn side changes = All (IsChangeOn side) changes

-- the grid after the changes, the last one first
abbrev pub after_changes : Grid → List Change → Grid
after_changes grid [] = grid
after_changes grid (change ∷ others) = with_change (after_changes grid others) change

-- a change has the stones of its row of the grid
pub record IsRowOf (grid : Grid) (change : Change) : Type 0 where
  pub on : IsChangeOn grid.side change
  pub black : (col : ℕ) → col < grid.side
      → has_bit change.black col ≡ same_cell (cell_at grid (record { col = col; row = change.row })) Black
  pub white : (col : ℕ) → col < grid.side
      → has_bit change.white col ≡ same_cell (cell_at grid (record { col = col; row = change.row })) White

-- one of the changes is of the row
abbrev pub HasRow : ℕ → List Change → Type 0
HasRow row [] = ⊥
HasRow row (change ∷ others) = (change.row ≡ row) ⊎ HasRow row others

-- the new changes are the old ones and a row of the grid
pub record AddsRow (grid : Grid) (row : ℕ) (old new : List Change) : Type 0 where
  pub change : Change
  pub added : new ≡ old ++ change ∷ []
  pub is : IsRowOf grid change
  pub at : change.row ≡ row

-- two grids have the same on each point of a row
abbrev pub IsSameRow : Grid → Grid → ℕ → Type 0
IsSameRow old new row =
    (col : ℕ) → col < old.side → cell_at old (record { col = col; row = row }) ≡ cell_at new (record { col = col; row = row })

-- The changes `after` are those before and some rows of a grid. Of its first `count` rows these are all that another grid has otherwise,
-- and if `all`, all. There are no more than `count`.
pub record KeepRows (old new : Grid) (all : Bool) (count : ℕ) (before after : List Change) : Type 0 where
  pub more : List Change
  pub added : after ≡ before ++ more
  pub are : All (IsRowOf old) more
  pub few : length more ≤ count
  pub each : (row : ℕ) → row < count → HasRow row more ⊎ (IsFalse all × IsSameRow old new row)

-- the step after this many others keeps all rows of the colouring before it
abbrev pub is_full : ℕ → Bool
is_full count = count % FULL == FULL - 1

-- there is room for the older colourings up to the next full step, if there are this many
abbrev pub HasRoom : ℕ → ℕ → Type 0
HasRoom count room = count - count % FULL + (FULL - 1) ≤ room

-- the changes make that grid from every grid of its side
abbrev pub MakeOne : Grid → List Change → Type 0
MakeOne made changes =
    (grid : Grid) → grid.side ≡ made.side → length grid.cells ≡ grid.side * grid.side → after_changes grid changes ≡ made

-- the colouring before a grid: the stone of the step is removed, or the changes of the step lead back
abbrev pub step_back : Grid → Older → List Change → Grid
step_back grid kept changes =
    if kept.alone then with_cell grid kept.point Empty else after_changes grid changes

-- the same; the step's changes are those from `start` on
abbrev pub before : Grid → Older → List Change → Grid
before grid kept changes = step_back grid kept (drop kept.start changes)

-- the changes that lead further back
abbrev pub changes_before : Older → List Change → List Change
changes_before kept changes = take kept.start changes

-- the colourings before a grid, newest first, from what is kept of them
abbrev pub held_before : Grid → List Older → List Change → List Held
held_before grid [] changes = []
held_before grid (kept ∷ others) changes =
    record { colouring = before grid kept changes; begins = kept.stretch_start == length others }
    ∷ held_before (before grid kept changes) others (changes_before kept changes)

-- what `Known` tells
abbrev pub is_settled : Known → Bool
is_settled Nothing = false
is_settled Settled = true
is_settled Fresh = true

abbrev pub is_fresh : Known → Bool
is_fresh Nothing = false
is_fresh Settled = false
is_fresh Fresh = true

-- the newest colouring has a stone on that point, and no older one of the present stretch has
pub record IsFreshStone (past : PastColourings) (point : Point) : Type 0 where
  pub on : IsOn (newest_grid past).side point
  pub there : cell_at (newest_grid past) point ≢ Empty
  pub new : (grid : Grid) → Contains (if past.newest.begins then [] else stretch_of past.older) grid → cell_at grid point ≡ Empty

-- `known` holds of the newest colouring, and of a stone that is played on it
pub record IsKnown (past : PastColourings) (colour : Colour) (point : Point) (known : Known) : Type 0 where
  pub settled : IsTrue (is_settled known) → has_unreaching (newest_grid past) ≡ false
  pub fresh : IsTrue (is_fresh known) → IsFreshStone (with_next past (play (newest_grid past) colour point) false) point

-- each step that is marked fresh put a stone where no older colouring of the stretch has one; both lists are newest first
abbrev pub AreFresh : List Older → List Held → Type 0
AreFresh [] held = Unit {0}
AreFresh (kept ∷ others) [] = Unit {0}
AreFresh (kept ∷ others) (later ∷ older) =
    (IsTrue (is_fresh kept.known) → IsFreshStone (record { newest = later; older = older }) kept.point) × AreFresh others older

-- Each `start` is at most the number of changes. The point of a lone stone is on the grid; its step has no changes, came from a settled
-- colouring, and isn't full. The changes of a full step make the colouring before it from any grid. A colouring that is marked settled is
-- settled.
abbrev pub AreKept : Grid → List Older → List Change → Type 0
AreKept grid [] changes = Unit {0}
AreKept grid (kept ∷ others) changes =
    (kept.start ≤ length changes)
    × (IsTrue kept.alone → IsOn grid.side kept.point × (kept.start ≡ length changes) × IsTrue (is_settled kept.known) × IsFalse (is_full (length others)))
    × (IsTrue (is_settled kept.known) → has_unreaching (before grid kept changes) ≡ false)
    × (IsTrue (is_full (length others)) → MakeOne (before grid kept changes) (drop kept.start changes))
    × AreKept (before grid kept changes) others (changes_before kept changes)

-- The start of a colouring's stretch is its own number, or else that of the colouring before it. After a lone stone it is that of the colouring
-- before it. The list is that of the older ones.
abbrev pub AreStarted : ℕ → List Older → Type 0
AreStarted start [] = start ≡ 0
AreStarted start (kept ∷ others) =
    (start ≤ suc (length others)) × (start < suc (length others) → start ≡ kept.stretch_start) × (IsTrue kept.alone → start ≡ kept.stretch_start)
    × AreStarted kept.stretch_start others

-- all colourings, newest first
abbrev pub all_held : Grid → ℕ → List Older → List Change → List Held
all_held newest start older changes =
    record { colouring = newest; begins = start == length older } ∷ held_before newest older changes

-- what is kept of a past; the older colourings stand oldest first
pub record IsPast (newest : Grid) (stretch_start : ℕ) (older : List Older) (changes : List Change) : Type 0 where
  pub kept : AreKept newest (reverse older) changes
  pub started : AreStarted stretch_start (reverse older)
  pub on_grid : AreOn newest.side changes
  pub fresh : AreFresh (reverse older) (all_held newest stretch_start (reverse older) changes)
  pub few : length changes ≤ MOST
