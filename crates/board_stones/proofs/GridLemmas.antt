-- Reading the grids that functions of the points make, and grids after a point was set.
use Rattle.board_stones.proofs.Common.{◌≡◌, ◌≢◌, ℕ, ◌*◌, length, ap, ◌∙◌, Decides, rules, arith, same_from_decides, common_steps, length-map, Point, IsOn, points, Cell, same_cell, Grid, cell_at, with_cell, grid_of, Empty}
use Rattle.std.proofs.Common.{get_or-set_same, get_or-set_other}
use denote.Enum.Bare.{sameb, same_true, true_same}
use Rattle.board_stones.specs.contracts.stones.Cell.{the_type}
use Rattle.board_stones.specs.declared.stones.Cell.TheVariants.{Black, White}
use Rattle.board_points.proofs.PointLemmas.{index_below, index_of-injective, length-points, get_or-map-points}

pub Decides-same_cell : (a b : Cell) → Decides (same_cell a b) (a ≡ b)
Decides-same_cell a b = grind (arith, common_steps)

-- cells that are alike for both colours are one
pub same_stones : (a b : Cell) → same_cell a Black ≡ same_cell b Black → same_cell a White ≡ same_cell b White → a ≡ b
same_stones a b black white = grind (arith, common_steps)

-- what `==` says of two cells
pub Decides-cell_eq : (a b : Cell) → Decides (sameb the_type a b) (a ≡ b)
Decides-cell_eq a b = (same_true the_type (search rules) a b, true_same the_type a b)

-- `==` on two cells is the test of the definitions
pub same_cell-eq : (a b : Cell) → sameb the_type a b ≡ same_cell a b
same_cell-eq a b = same_from_decides _ _ (Decides-cell_eq a b) (Decides-same_cell a b)

-- grids with one side and the same cells are one
pub one_grid : (a b : Grid) → a.side ≡ b.side → a.cells ≡ b.cells → a ≡ b
one_grid a b e f = ap (λ s. record { side = s; cells = a.cells }) e ∙ ap (λ l. record { side = b.side; cells = l }) f

pub cell_at-grid_of : (side : ℕ) (colour : Point → Cell) (p : Point) → IsOn side p → cell_at (grid_of side colour) p ≡ colour p
cell_at-grid_of side colour p h = get_or-map-points colour side p Empty h

pub length-grid_of : (side : ℕ) (colour : Point → Cell) → length (grid_of side colour).cells ≡ side * side
length-grid_of side colour = length-map (points side) colour ∙ length-points side

pub cell_at-with_cell : (g : Grid) (p : Point) (c : Cell) → IsOn g.side p → length g.cells ≡ g.side * g.side → cell_at (with_cell g p c) p ≡ c
cell_at-with_cell g p c h all = grind (arith, common_steps, get_or-set_same, index_below)

pub cell_at-with_cell_elsewhere : (g : Grid) (p q : Point) (c : Cell) → IsOn g.side p → IsOn g.side q → q ≢ p → cell_at (with_cell g p c) q ≡ cell_at g q
cell_at-with_cell_elsewhere g p q c hp hq other = grind (arith, common_steps, get_or-set_other, index_of-injective)

pub ruleset grid_rules = (cell_at-grid_of, same_cell-eq, cell_at-with_cell_elsewhere)
