-- A rectangle coloured row by row.
use Rattle.board_stones.proofs.Common.{◌≡◌, ℕ, ◌+◌, ◌<◌, ◌≤◌, ◌&&◌, true, List, [], ◌∷◌, fold, length, get_or, take, refl, ◌∙◌, arith, and-true, and_from, and_parts, common_steps, fold_more, Point, has_bit, Grid, is_in, with_rectangle}
use Rattle.std.proofs.Common.{nat_le, leb-true, le-leb}
use Rattle.board_points.specs.declared.points.Rect.{Rect}
use Rattle.board_stones.specs.declared.setup_op.SetupOp.{SetupOp}

-- in the rows of a rectangle the columns between its sides are its points
pub rectangle_columns : (area : Rect) (columns : ℕ) (p : Point) → ((k : ℕ) → has_bit columns k ≡ (nat_le area.first.col k && nat_le k area.last.col)) → area.first.row ≤ p.row → p.row ≤ area.last.row → has_bit columns p.col ≡ is_in area p
rectangle_columns area columns p is from to = grind (arith, common_steps, and-true, and_from, le-leb, nat_le)

-- a point of a rectangle is between its first and its last row
pub rectangle_rows : (area : Rect) (p : Point) → is_in area p ≡ true → (area.first.row ≤ p.row) × (p.row ≤ area.last.row)
rectangle_rows area p is = grind (arith, common_steps, and_parts, leb-true)

-- a rectangle's colours leave the side
pub side-with_rectangle : (g : Grid) (op : SetupOp) → (with_rectangle g op).side ≡ g.side
unfolding with_rectangle
side-with_rectangle g op = refl

pub side-with_rectangles : (g : Grid) (ops : List SetupOp) → (fold with_rectangle g ops).side ≡ g.side
side-with_rectangles g [] = refl
side-with_rectangles g (op ∷ ops) = side-with_rectangles (with_rectangle g op) ops ∙ side-with_rectangle g op

-- one rectangle more
pub rectangles_more : (g before coloured : Grid) (ops : List SetupOp) (i : ℕ) (d : SetupOp) → i < length ops → coloured ≡ with_rectangle before (get_or ops i d) → before.side ≡ g.side → before ≡ fold with_rectangle g (take i ops) → (coloured.side ≡ g.side) × (coloured ≡ fold with_rectangle g (take (i + 1) ops))
rectangles_more g before coloured ops i d within step same so_far = grind (arith, common_steps, fold_more, side-with_rectangle)
