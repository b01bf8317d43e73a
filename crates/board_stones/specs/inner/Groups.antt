-- Groups without liberties, and stones that reach empty.
use Rattle.std.specs.Prelude.{◌≡◌, ◌≢◌, ◌⊎◌, ℕ, Bool, ◌&&◌, not, IsTrue, IsFalse, List, length}
use Rattle.board_stones.specs.declared.stones.Cell.TheVariants.{Empty}
use Rattle.board_stones.specs.declared.stones.Colour.{Colour}
use Rattle.board_points.specs.declared.points.Point.{Point}
use Rattle.board_stones.specs.Colour.{opponent, stone_of, same_cell}
use Rattle.board_points.specs.Point.{IsOn, AreAdjacent}
use Rattle.board_stones.specs.Grid.{Grid, cell_at}
use Rattle.board_stones.specs.Reaching.{Reaches, reaches}
use Rattle.board_points.specs.Rows.{is_set, IsAmong}

-- The points that pass the test are stones of one colour. Each stone of that
-- colour beside such a point passes, too. No point beside these stones is empty.
pub record IsWithoutLiberty (grid : Grid) (colour : Colour) (test : Point → Bool) : Type 0 where
  pub stones : (point : Point) → IsOn grid.side point → IsTrue (test point) → cell_at grid point ≡ stone_of colour
  pub shut : (point neighbour : Point) → IsOn grid.side point → IsOn grid.side neighbour → AreAdjacent point neighbour
      → IsTrue (test point) → cell_at grid neighbour ≢ Empty
  pub whole : (point neighbour : Point) → IsOn grid.side point → IsOn grid.side neighbour → AreAdjacent point neighbour
      → IsTrue (test point) → cell_at grid neighbour ≡ stone_of colour → IsTrue (test neighbour)

-- the rows have whole groups of a colour, each without a liberty
pub record AreShutGroups (grid : Grid) (colour : Colour) (rows : List ℕ) : Type 0 where
  pub all : length rows ≡ grid.side
  pub on_grid : (point : Point) → IsTrue (is_set rows point) → IsOn grid.side point
  pub shut : IsWithoutLiberty grid colour (is_set rows)

-- Groups of a colour, each without a liberty, were added to rows that had such groups already. `added` tells whether there were any.
pub record AddsShut (grid : Grid) (colour : Colour) (old new : List ℕ) (added : Bool) : Type 0 where
  pub shut : AreShutGroups grid colour new
  pub kept : IsAmong (is_set old) (is_set new)
  pub none : IsFalse added → new ≡ old
  pub some : IsTrue added → (point : Point) × IsTrue (is_set new point)

-- all stones of a colour reach empty
abbrev pub AllReach : Grid → Colour → Type 0
AllReach grid colour =
    (point : Point) → IsOn grid.side point → cell_at grid point ≡ stone_of colour → Reaches grid Empty point

-- whether the point has a stone of the colour that doesn't reach empty
abbrev pub is_shut : Grid → Colour → Point → Bool
is_shut grid colour point = same_cell (cell_at grid point) (stone_of colour) && not (reaches grid Empty point)

-- if the point has a stone of the colour, the stone reaches empty
abbrev pub ReachesIfStone : Grid → Colour → Point → Type 0
ReachesIfStone grid colour point = cell_at grid point ≡ stone_of colour → Reaches grid Empty point

-- the stones of a colour beside a point reach empty
abbrev pub ReachBeside : Grid → Colour → Point → Type 0
ReachBeside grid colour point =
    (neighbour : Point) → IsOn grid.side neighbour → AreAdjacent point neighbour → ReachesIfStone grid colour neighbour

-- If the point has a stone of the colour, the stone reaches empty. The opponent's stones beside the point reach empty, too. So
-- nothing is captured.
abbrev pub AllLive : Grid → Colour → Point → Type 0
AllLive grid colour point = ReachesIfStone grid colour point × ReachBeside grid (opponent colour) point

-- if the point has a stone of the colour, the rows have the point, or the stone reaches empty
abbrev pub IsClearedOrReaches : Grid → Colour → List ℕ → Point → Type 0
IsClearedOrReaches grid colour rows point =
    cell_at grid point ≡ stone_of colour → IsTrue (is_set rows point) ⊎ Reaches grid Empty point

-- `IsClearedOrReaches` for each stone of the colour beside a point
abbrev pub AreClearedOrReachBeside : Grid → Colour → Point → List ℕ → Type 0
AreClearedOrReachBeside grid colour point rows =
    (neighbour : Point) → IsOn grid.side neighbour → AreAdjacent point neighbour → IsClearedOrReaches grid colour rows neighbour

-- rows of stones of a colour that reach empty
pub record AreKnownAlive (grid : Grid) (colour : Colour) (rows : List ℕ) : Type 0 where
  pub all : length rows ≡ grid.side
  pub reach : (point : Point) → IsTrue (is_set rows point) → Reaches grid Empty point
