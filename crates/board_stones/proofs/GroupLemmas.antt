-- A group without a liberty can be removed before its colour is cleared: the cleared grid is the same.
use Rattle.board_stones.proofs.Common.{◌≡◌, ◌≢◌, ◌⊎◌, ℕ, ◌*◌, false, List, [], ◌∷◌, length, get_or, sym, ap, subst, ◌∙◌, arith, true≢false, not_from_Decides, common_steps, Point, IsOn, point_at, Cell, Colour, opponent, stone_of, same_cell, Grid, cell_at, grid_of, Leads, Reaches, Empty, index_of-point_at, IsOn-point_at}
use Rattle.board_points.proofs.PointLemmas.{is_map-points}
use Rattle.board_stones.proofs.GridLemmas.{Decides-same_cell, cell_at-grid_of, length-grid_of}

-- a point has that colour or not
pub coloured_or_not : (a b : Cell) → (a ≡ b) ⊎ (a ≢ b)
coloured_or_not a b = grind (arith, common_steps, Decides-same_cell, not_from_Decides)

pub stone_of≢Empty : (k : Colour) → stone_of k ≢ Empty
stone_of≢Empty k = grind (arith, common_steps)

-- a cell with neither player's stone is empty
pub neither_stone : (k : Colour) (c : Cell) → same_cell c (stone_of k) ≡ false → same_cell c (stone_of (opponent k)) ≡ false → c ≡ Empty
neither_stone k c own other = grind (arith, common_steps, true≢false)

-- where a path leads from a point, the point reaches its end
pub Reaches-Leads : (g : Grid) (own k : Cell) (p : Point) (path : List Point) → Leads g own k p path → Reaches g k p
Reaches-Leads g own k p [] way = ([], way)
Reaches-Leads g own k p (q ∷ path) way = (q ∷ path, subst (λ c. Leads g c k p (q ∷ path)) (sym way.1) way)

-- a grid made by a function that reads another grid is that grid
pub grid_of-cells : (g : Grid) (f : Point → Cell) → length g.cells ≡ g.side * g.side → ((p : Point) → IsOn g.side p → f p ≡ cell_at g p) → grid_of g.side f ≡ g
grid_of-cells g f all each =
    ap (λ l. record { side = g.side; cells = l })
    (sym (is_map-points f g.side g.cells Empty all
    (λ i below.
    ap (λ j. get_or g.cells j Empty) (sym (index_of-point_at g.side i below)) ∙ sym (each (point_at g.side i) (IsOn-point_at g.side i below)))))

-- functions that agree on the points of a grid make the same one
pub same_colours : (side : ℕ) (f h : Point → Cell) → ((p : Point) → IsOn side p → f p ≡ h p) → grid_of side f ≡ grid_of side h
same_colours side f h each =
    grid_of-cells (grid_of side h) f (length-grid_of side h) (λ p on. each p on ∙ sym (cell_at-grid_of side h p on))

-- two colourings of one side with the same on each point are one
pub one_colouring : (g h : Grid) → g.side ≡ h.side → length g.cells ≡ g.side * g.side → length h.cells ≡ h.side * h.side → ((p : Point) → IsOn g.side p → cell_at g p ≡ cell_at h p) → g ≡ h
one_colouring g h side all all' each = grind (arith, common_steps, grid_of-cells g (cell_at h), grid_of-cells h (cell_at h))
