-- A flood from the points of a colour.
use Rattle.std.specs.Prelude.{◌≡◌, ◌⊎◌, ◌*◌, IsTrue, Contains, length}
use Rattle.board_stones.specs.declared.stones.Cell.{Cell}
use Rattle.board_points.specs.declared.points.Point.{Point}
use Rattle.board_points.specs.Point.{IsOn, AreAdjacent}
use Rattle.board_stones.specs.Grid.{Grid, cell_at}
use Rattle.board_points.specs.Marking.{is_marked}
use Rattle.board_stones.specs.Reaching.{Reaches}
use Rattle.board_points.specs.Search.{Searched}

-- The second point reaches the wanted colour by a step to the first, which reaches it: that has the wanted colour, or both have
-- the same colour.
abbrev pub ReachesThrough : Grid → Cell → Point → Point → Type 0
ReachesThrough grid wanted point neighbour =
    AreAdjacent point neighbour × ((cell_at grid point ≡ wanted) ⊎ (cell_at grid neighbour ≡ cell_at grid point))

-- A flood under way: all points of the colour are found, and what is found reaches it. A point that
-- reaches it through a found one is found, unless that one still waits.
pub record IsUnderWay (grid : Grid) (wanted : Cell) (search : Searched) : Type 0 where
  pub side : search.marking.side ≡ grid.side
  pub all : length search.marking.marks ≡ grid.side * grid.side
  pub begun : (point : Point) → IsOn grid.side point → cell_at grid point ≡ wanted → IsTrue (is_marked search.marking point)
  pub reach : (point : Point) → IsOn grid.side point → IsTrue (is_marked search.marking point) → Reaches grid wanted point
  pub closed : (point neighbour : Point) → IsOn grid.side point → IsOn grid.side neighbour → IsTrue (is_marked search.marking point)
      → ReachesThrough grid wanted point neighbour → Contains search.waiting point ⊎ IsTrue (is_marked search.marking neighbour)
