-- Grids coloured row by row, and cleared ones.
use Rattle.board_stones.proofs.Common.{◌≡◌, ℕ, ◌+◌, ◌*◌, ◌<◌, ◌≤◌, ◌==◌, ◌&&◌, Bool, cond, true, false, nat_lt, List, length, refl, sym, ap, subst, ◌∙◌, arith, IsTrue, rules, true≢false, and-false, and_parts, and_from, false_from_ne_true, Decides-eqb, Decides-ltb, nat_tests, common_steps, Point, IsOn, has_bit, is_set, AreRowsOf, Cell, Colour, cleared_cell, clear, Grid, cell_at, grid_of, IsWithout, is_shut, with_columns, Empty, same_bools, has_bit-zero, row_below}
use Rattle.board_stones.proofs.GridLemmas.{cell_at-grid_of, length-grid_of}
use Rattle.board_stones.proofs.GroupLemmas.{grid_of-cells, same_colours}

-- a board without the stones of a colour that are shut in is cleared
pub without_shut : (g h : Grid) (k : Colour) (shut : List ℕ) → length g.cells ≡ g.side * g.side → AreRowsOf g.side (is_shut g k) shut → IsWithout g h (λ p. IsTrue (is_set shut p)) → h ≡ clear g k
unfolding clear cleared_cell
without_shut g h k shut all are is =
    sym (grid_of-cells h (cleared_cell g k) (is.all ∙ all ∙ ap (λ n. n * n) (sym is.same_side))
    (λ p at. let on = subst (λ n. IsOn n p) is.same_side at in cell p on (is_shut g k p) refl))
    ∙ ap (λ n. grid_of n (cleared_cell g k)) is.same_side
  where
    cell : (p : Point) → IsOn g.side p → (b : Bool) → is_shut g k p ≡ b → cleared_cell g k p ≡ cell_at h p
    cell p on true gone = ap (λ b. cond b Empty (cell_at g p)) gone ∙ sym (is.emptied p on (are.on p on ∙ gone))
    cell p on false left = ap (λ b. cond b Empty (cell_at g p)) left ∙ sym (is.kept p on (λ gone. true≢false (sym gone ∙ are.on p on ∙ left)))

-- the grid with the cell on the points of a set in the rows before one
abbrev pub painted : Grid → (Point → Bool) → Cell → ℕ → Grid
painted g test cell row = grid_of g.side (λ p. cond (nat_lt p.row row && test p) cell (cell_at g p))

-- what a row adds: in it the columns are those of the set, and the rows before it stay
merged : (here column test before next : Bool) (cell old : Cell) → (here ≡ true → column ≡ test) → (here ≡ true → next ≡ true) → (here ≡ false → before ≡ next) → cond (here && column) cell (cond (before && test) cell old) ≡ cond (next && test) cell old
merged here column test before next cell old same done apart = grind (arith, common_steps)

module _ (g : Grid) (test : Point → Bool) (cell : Cell) (row : ℕ) where
  pub painted_none : length g.cells ≡ g.side * g.side → ((p : Point) → test p ≡ true → row ≤ p.row) → painted g test cell row ≡ g
  painted_none all from = grind (arith, common_steps, Decides-ltb, and_parts, false_from_ne_true, grid_of-cells, nat_lt)

  turn : (columns : ℕ) (p : Point) → (p.row ≡ row → has_bit columns p.col ≡ test p) → cond ((p.row == row) && has_bit columns p.col) cell (cond (nat_lt p.row row && test p) cell (cell_at g p)) ≡ cond (nat_lt p.row (row + 1) && test p) cell (cell_at g p)
  turn columns p is = grind (arith, common_steps, Decides-eqb, Decides-ltb, merged, nat_lt, nat_tests)

  pub painted_more : (columns : ℕ) → ((p : Point) → p.row ≡ row → has_bit columns p.col ≡ test p) → with_columns (painted g test cell row) row columns cell ≡ painted g test cell (row + 1)
  unfolding with_columns
  painted_more columns is = search (rules, cell_at-grid_of, same_colours, turn)

  pub painted_same : (columns : ℕ) → columns ≡ 0 → ((p : Point) → p.row ≡ row → has_bit columns p.col ≡ test p) → painted g test cell row ≡ painted g test cell (row + 1)
  painted_same columns zero is = grind (arith, common_steps, and-false, has_bit-zero, nat_lt, same_colours, turn)

  pub painted_all : ((p : Point) → test p ≡ true → p.row < row) → painted g test cell row ≡ grid_of g.side (λ p. cond (test p) cell (cell_at g p))
  painted_all below = grind (arith, common_steps, Decides-ltb, and_from, and_parts, nat_lt, same_bools, same_colours)

-- the points of all rows emptied
pub painted_empty : (g : Grid) (rows : List ℕ) (row : ℕ) → length g.cells ≡ g.side * g.side → length rows ≤ row → IsWithout g (painted g (is_set rows) Empty row) (λ p. is_set rows p ≡ true)
painted_empty g rows row all past = grind (arith, common_steps, cell_at-grid_of, false_from_ne_true, length-grid_of, painted_all, row_below)
