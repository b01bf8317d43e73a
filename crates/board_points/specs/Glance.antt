-- What holds of a player's stone that is put on a point, and of the stones beside it. The player's stones are in the one set of points, and the
-- opponent's in the other.
use Rattle.std.specs.Prelude.{◌≡◌, ◌≢◌, ◌⊎◌, ℕ, IsTrue, List}
use Rattle.board_points.specs.Point.{Point, AreAdjacent, DifferByOne}
use Rattle.board_points.specs.Linked.{IsFree}
use Rattle.board_points.specs.Rows.{is_set}

-- once a stone is put on `point`, a free point is still beside the point `stone`
abbrev pub KeepsLiberty : List ℕ → List ℕ → Point → Point → Type 0
KeepsLiberty own others point stone = (free : Point) × IsFree own others free × (free ≢ point) × AreAdjacent stone free

-- a player's stone on the point is alive, by a liberty of its own or of a stone beside it
abbrev pub Lives : List ℕ → List ℕ → Point → Type 0
Lives own others point =
    KeepsLiberty own others point point
    ⊎ ((friend : Point) × IsTrue (is_set own friend) × AreAdjacent point friend × KeepsLiberty own others point friend)

-- the opponent's stones to the left and right of the point keep a liberty
abbrev pub LeavesAlong : List ℕ → List ℕ → Point → Type 0
LeavesAlong own others point =
    (stone : Point) → IsTrue (is_set others stone) → (point.row ≡ stone.row) × DifferByOne point.col stone.col → KeepsLiberty own others point stone

-- the opponent's stones above and below the point keep a liberty
abbrev pub LeavesAcross : List ℕ → List ℕ → Point → Type 0
LeavesAcross own others point =
    (stone : Point) → IsTrue (is_set others stone) → (point.col ≡ stone.col) × DifferByOne point.row stone.row → KeepsLiberty own others point stone

-- a player's stone on the point lives, and so do the opponent's stones beside it
pub record LeavesAllAlive (own others : List ℕ) (point : Point) : Type 0 where
  pub lives : Lives own others point
  pub along : LeavesAlong own others point
  pub across : LeavesAcross own others point
