-- Reaching a colour, as the Tromp-Taylor rules define it: by a path of adjacent points of the point's own colour. The empty
-- points beside a group are its liberties: a stone reaches empty if its group has a liberty. A point of the wanted colour reaches
-- that colour by itself. This is this project's choice; clearing and the score don't depend on it.
use Rattle.std.specs.Prelude.{◌≡◌, ℕ, zero, suc, ◌*◌, Bool, ◌&&◌, ◌||◌, List, [], ◌∷◌}
use Rattle.std.specs.List.{list_any}
use Rattle.board_stones.specs.declared.stones.Cell.{Cell}
use Rattle.board_points.specs.declared.points.Point.{Point}
use Rattle.board_stones.specs.Colour.{same_cell}
use Rattle.board_points.specs.Point.{IsOn, AreAdjacent, are_adjacent, points}
use Rattle.board_stones.specs.Grid.{Grid, cell_at}
use Rattle.board_points.specs.Marking.{Marking, is_marked, marking_of}

-- The path leads from the point to a point of the wanted colour. Each point of the path is on the grid and adjacent to the point
-- before it. All points but the last have the colour `own`.
abbrev pub Leads : Grid → Cell → Cell → Point → List Point → Type 0
Leads grid own wanted point [] = IsOn grid.side point × (cell_at grid point ≡ wanted)
Leads grid own wanted point (next ∷ path) =
    IsOn grid.side point × (cell_at grid point ≡ own) × AreAdjacent point next × Leads grid own wanted next path

-- the point reaches the wanted colour: some path through points of its own colour leads from it to a point of that colour
abbrev pub Reaches : Grid → Cell → Point → Type 0
Reaches grid wanted point = (path : List Point) × Leads grid (cell_at grid point) wanted point path

-- Below, the same as a function that computes; the laws say that the two agree on the points of the grid.

-- the next point is beside the point, is marked, and has the point's colour or the wanted one
abbrev pub leads_on : Grid → Cell → Marking → Point → Point → Bool
leads_on grid wanted marking point next =
    are_adjacent point next
    && (is_marked marking next
    && (same_cell (cell_at grid next) (cell_at grid point) || same_cell (cell_at grid next) wanted))

-- the marked points, and those that reach the wanted colour by one step to a marked point
unfoldable pub spread : Grid → Cell → Marking → Marking
spread grid wanted marking =
    marking_of grid.side
    (λ point. is_marked marking point || list_any (leads_on grid wanted marking point) (points grid.side))

-- the points that reach the wanted colour in at most this many steps
unfoldable pub reaching_within : Grid → Cell → ℕ → Marking
reaching_within grid wanted zero = marking_of grid.side (λ point. same_cell (cell_at grid point) wanted)
reaching_within grid wanted (suc steps) = spread grid wanted (reaching_within grid wanted steps)

-- the point reaches the wanted colour; a path needs no more steps than the grid has points
unfoldable pub reaches : Grid → Cell → Point → Bool
reaches grid wanted point = is_marked (reaching_within grid wanted (grid.side * grid.side)) point
