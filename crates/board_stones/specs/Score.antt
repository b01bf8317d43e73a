-- The area score of the Tromp-Taylor rules.
use Rattle.std.specs.Prelude.{◌≡◌, ◌⊎◌, ℕ, Bool, not, ◌&&◌, ◌||◌, count_by}
use Rattle.board_stones.specs.declared.stones.Cell.TheVariants.{Empty}
use Rattle.board_stones.specs.declared.stones.Colour.{Colour}
use Rattle.board_points.specs.declared.points.Point.{Point}
use Rattle.board_stones.specs.Colour.{opponent, stone_of, same_cell}
use Rattle.board_points.specs.Point.{points}
use Rattle.board_stones.specs.Grid.{Grid, cell_at}
use Rattle.board_stones.specs.Reaching.{Reaches, reaches}

-- A point counts for a player if it has her colour, or if it is empty and reaches her colour and not the other's.
abbrev pub CountsFor : Grid → Colour → Point → Type 0
CountsFor grid colour point =
    (cell_at grid point ≡ stone_of colour)
    ⊎ ((cell_at grid point ≡ Empty)
    × Reaches grid (stone_of colour) point
    × (¬ (Reaches grid (stone_of (opponent colour)) point)))

-- the same, as a test
unfoldable pub counts_for : Grid → Colour → Point → Bool
counts_for grid colour point =
    same_cell (cell_at grid point) (stone_of colour)
    || (same_cell (cell_at grid point) Empty
    && (reaches grid (stone_of colour) point && not (reaches grid (stone_of (opponent colour)) point)))

-- a player's score: how many points count for her
unfoldable pub score_of : Grid → Colour → ℕ
score_of grid colour = count_by (counts_for grid colour) (points grid.side)
