-- The group of a stone, as sets of points: the stones of its colour that are linked to it, and their liberties.
use Rattle.std.specs.Prelude.{◌≡◌, ◌⊎◌, ◌||◌, ℕ, Bool, false, IsTrue, IsFalse, List, length, ◌<◌}
use Rattle.board_points.specs.Point.{Point, IsOn, AreAdjacent}
use Rattle.board_points.specs.Rows.{is_set, AreOfOneBoard, IsAmong, IsClosed}

-- Every set that has the point `from` and is closed within the region also has the other point.
abbrev pub IsLinked : (Point → Bool) → Point → Point → Type 0
IsLinked region from point = (set : Point → Bool) → IsClosed region set → IsTrue (set from) → IsTrue (set point)

-- a point of the board without a stone
abbrev pub IsFree : List ℕ → List ℕ → Point → Type 0
IsFree own others point = IsOn (length own) point × (is_set own point ≡ false) × (is_set others point ≡ false)

-- a point without a stone is beside the point `stone`
abbrev pub HasLiberty : List ℕ → List ℕ → Point → Type 0
HasLiberty own others stone = (point : Point) × IsFree own others point × AreAdjacent point stone

-- `found` has the stones of `own` that have an empty point beside them
pub record HaveLiberty (own others found : List ℕ) : Type 0 where
  pub from : (stone : Point) → IsTrue (is_set found stone) → IsTrue (is_set own stone) × HasLiberty own others stone
  pub to : (stone : Point) → stone.col < 64 → IsTrue (is_set own stone) → HasLiberty own others stone → IsTrue (is_set found stone)

-- the first of two colours has a stone on the point
pub record IsStone (own others : List ℕ) (point : Point) : Type 0 where
  pub rows : AreOfOneBoard own others
  pub on_board : IsOn (length own) point
  pub there : IsTrue (is_set own point)

-- the stone has a liberty, and is linked to the stone on `from`
pub record IsLiberty (own others : List ℕ) (from stone : Point) : Type 0 where
  pub own_stone : IsTrue (is_set own stone)
  pub linked : IsLinked (is_set own) from stone
  pub liberty : HasLiberty own others stone

-- the group of the stone on a point, in which no stone has a liberty
pub record IsShutIn (own others : List ℕ) (from : Point) (group : List ℕ) : Type 0 where
  pub all : length group ≡ length own
  pub within : IsAmong (is_set group) (is_set own)
  pub start : IsTrue (is_set group from)
  pub closed : IsClosed (is_set own) (is_set group)
  pub shut : (stone : Point) → IsTrue (is_set group stone) → ¬ (HasLiberty own others stone)

-- The group of the stone on `from` was added to the rows if it has no liberty. `added` tells whether it was.
pub record AddsIfShut (own others : List ℕ) (from : Point) (old new : List ℕ) (added : Bool) : Type 0 where
  pub lives : IsFalse added → (new ≡ old) × ((stone : Point) × IsLiberty own others from stone)
  pub shut : IsTrue added → (group : List ℕ) × IsShutIn own others from group × (length new ≡ length old)
      × ((point : Point) → is_set new point ≡ (is_set old point || is_set group point))

-- Stones were added to the rows. The group of each of them has a liberty.
pub record AddsAlive (own others old new : List ℕ) : Type 0 where
  pub all : length new ≡ length old
  pub alive : (point : Point) → IsTrue (is_set new point)
      → IsTrue (is_set old point) ⊎ (IsTrue (is_set own point) × ((stone : Point) × IsLiberty own others point stone))
