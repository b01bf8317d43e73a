-- What a stone that is played clears, as rows of bits.
use Rattle.std.specs.Prelude.{◌≡◌, ◌≤◌, ℕ, false, IsTrue, List, length}
use Rattle.board_stones.specs.declared.stones.Cell.TheVariants.{Empty}
use Rattle.board_stones.specs.declared.stones.Colour.{Colour}
use Rattle.board_points.specs.declared.points.Point.{Point}
use Rattle.board_stones.specs.Colour.{stone_of}
use Rattle.board_points.specs.Point.{IsOn}
use Rattle.board_stones.specs.Grid.{Grid, cell_at, with_cell}
use Rattle.board_stones.specs.Clearing.{has_unreaching, play}
use Rattle.board_points.specs.Rows.{is_set}

-- `after` is `before` with the points of `Gone` emptied
pub record IsWithout (before after : Grid) (Gone : Point → Type 0) : Type 0 where
  pub same_side : after.side ≡ before.side
  pub all : length after.cells ≡ length before.cells
  pub emptied : (point : Point) → IsOn before.side point → Gone point → cell_at after point ≡ Empty
  pub kept : (point : Point) → IsOn before.side point → (¬ Gone point) → cell_at after point ≡ cell_at before point

-- Playing a stone puts it on its point, and empties the points of the rows. There may be fewer rows than the grid has.
pub record Clears (grid : Grid) (colour : Colour) (point : Point) (rows : List ℕ) : Type 0 where
  pub few : length rows ≤ grid.side
  pub on_grid : (q : Point) → IsTrue (is_set rows q) → IsOn grid.side q
  pub played : IsWithout (with_cell grid point (stone_of colour)) (play grid colour point) (λ q. IsTrue (is_set rows q))

-- an empty point of a grid on which every stone reaches empty
pub record IsEmptyOnSettled (grid : Grid) (point : Point) : Type 0 where
  pub on_board : IsOn grid.side point
  pub empty : cell_at grid point ≡ Empty
  pub settled : has_unreaching grid ≡ false

-- a stone that is put on an empty point, and what it clears
pub record IsMove (grid : Grid) (colour : Colour) (point : Point) (rows : List ℕ) : Type 0 where
  pub on_board : IsOn grid.side point
  pub empty : cell_at grid point ≡ Empty
  pub cleared : Clears grid colour point rows
