-- The past colourings of a game, each with whether it begins a stretch. Positional
-- superko looks at the present stretch alone. Reason.antt of `go_board` defines what it forbids.
use Rattle.std.specs.Prelude.{◌≡◌, ◌≢◌, ◌↔◌, ◌⊎◌, ℕ, Bool, true, false, List, [], ◌∷◌, if◌then◌else◌, Result, IsFalse, IfOk, OnErr, Contains}
use Rattle.board_stones.specs.declared.stones.Cell.TheVariants.{Empty}
use Rattle.board_stones.specs.declared.stones.Colour.{Colour}
use Rattle.board_points.specs.declared.points.Point.{Point}
use Rattle.board_stones.specs.Grid.{Grid, cell_at}
use Rattle.board_stones.specs.Clearing.{play}

-- a past colouring, and whether it begins a stretch
pub record Held : Type 0 where
  pub colouring : Grid
  pub begins : Bool

-- the newest past colouring, and the older ones, newest first
pub record PastColourings : Type 0 where
  pub newest : Held
  pub older : List Held

-- all past colourings, newest first
abbrev pub all_of : PastColourings → List Held
all_of past = past.newest ∷ past.older

-- the newest past colouring
abbrev pub newest_grid : PastColourings → Grid
newest_grid past = past.newest.colouring

-- one colouring alone, which begins a stretch
abbrev pub only : Grid → PastColourings
only grid = record { newest = record { colouring = grid; begins = true }; older = [] }

-- one more colouring, which begins a stretch or continues the present one
abbrev pub with_next : PastColourings → Grid → Bool → PastColourings
with_next past grid begins =
    record { newest = record { colouring = grid; begins = begins }; older = all_of past }

-- the colourings of the newest stretch, newest first: back to the first one that begins a stretch
abbrev pub stretch_of : List Held → List Grid
stretch_of [] = []
stretch_of (first ∷ others) = first.colouring ∷ (if first.begins then [] else stretch_of others)

-- the colourings of the present stretch
abbrev pub present_stretch : PastColourings → List Grid
present_stretch past = stretch_of (all_of past)

-- each of the colourings has that side
abbrev pub AllHaveSide : ℕ → List Held → Type 0
AllHaveSide side [] = Unit {0}
AllHaveSide side (first ∷ others) = (first.colouring.side ≡ side) × AllHaveSide side others

abbrev pub HaveSide : ℕ → PastColourings → Type 0
HaveSide side past = AllHaveSide side (all_of past)

-- what becomes of a past when a stone is played; the result says whether the colouring that the stone makes was added
pub record IsPlayed {E : Type 0} (colour : Colour) (point : Point) (old new : PastColourings) (result : Result Bool E) : Type 0 where
  -- the colouring wasn't added exactly if the present stretch has it already
  pub known : IfOk result (λ added. IsFalse added ↔ Contains (present_stretch old) (play (newest_grid old) colour point))
  pub ok : IfOk result (λ added. new ≡ (if added then with_next old (play (newest_grid old) colour point) false else old))
  -- memory is refused only if the stretch doesn't have the colouring
  pub refused : OnErr result (¬ Contains (present_stretch old) (play (newest_grid old) colour point))
  pub err : OnErr result (new ≡ old)

-- Somewhere in the stretch a colouring has a stone on the point, and the next colouring has none there. The list is newest first.
abbrev pub WasEmptied : Point → List Grid → Type 0
WasEmptied point [] = ⊥
WasEmptied point (later ∷ []) = ⊥
WasEmptied point (later ∷ (earlier ∷ others)) =
    ((cell_at earlier point ≢ Empty) × (cell_at later point ≡ Empty)) ⊎ WasEmptied point (earlier ∷ others)
