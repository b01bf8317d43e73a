-- The rows of the stones of a board: the grid that they make, and points of a row coloured anew.
use Rattle.board_stones.proofs.Common.{◌≡◌, ◌≢◌, ◌↔◌, inl, inr, ℕ, ◌*◌, ◌<◌, ◌≤◌, ◌==◌, ◌&&◌, Bool, true, false, not, cond, List, length, get_or, set, take, bit_or, refl, sym, ap, ◌∙◌, arith, subst, rules, length-set, cases_Bool, cases_eq, false≢true, Decides-eqb, common_steps, length-replicate, set-get_or, Point, IsOn, index_of, has_bit, has_bit-zero, is_set, AreRowsOf, Cell, same_cell, Grid, cell_at, with_cell, empty_grid, with_row, AreStones, grid_with, stone_in, with_columns, Empty, same_bools, row_below, get_or-replicate_default, same_or_not}
use Rattle.std.proofs.Common.{◌^◌, replicate, bit_and, w64, ext_get_or, get_or-take, length-take-le}
use Rattle.std.specs.Int.{bit_at, bit_not}
use Rattle.std.proofs.lemmas.Nat.Bits.{same_from_bits}
use Rattle.board_stones.specs.declared.stones.Cell.TheVariants.{Black, White}
use Rattle.board_points.proofs.WordLemmas.{has_bit-or, has_bit-less, bit_at-there, bit_at-gone}
use Rattle.board_points.proofs.GrowLemmas.{set_there, set_elsewhere}
use Rattle.board_points.proofs.MarkingLemmas.{is_set-none}
use Rattle.board_points.proofs.PointLemmas.{one_point}
use Rattle.board_stones.proofs.GridLemmas.{cell_at-grid_of, length-grid_of, cell_at-with_cell, cell_at-with_cell_elsewhere}
use Rattle.board_stones.proofs.GroupLemmas.{grid_of-cells, same_colours}

-- what stands on a point by its bits, and its bits by what stands there
stone_is : (c : Cell) → cond (same_cell c Black) Black (cond (same_cell c White) White Empty) ≡ c
stone_is c = grind (arith, common_steps)

black_is : (b w : Bool) → b ≡ same_cell (cond b Black (cond w White Empty)) Black
black_is b w = grind (arith, common_steps)

white_is : (b w : Bool) → (b ≡ true → w ≡ false) → w ≡ same_cell (cond b Black (cond w White Empty)) White
white_is b w apart = grind (arith, common_steps)

bit_in : (side : ℕ) (words : List ℕ) (p : Point) → p.row < side → is_set (take side words) p ≡ is_set words p
bit_in side words p below = ap (λ w. has_bit w p.col) (get_or-take side words p.row 0 below)

-- the rows of a board, as many as it has, are those of the grid that they make
module _ (side : ℕ) (black white : List ℕ) (are : AreStones side black white) where
  front : (k : Cell) (words : List ℕ) → length words ≡ 52 → ((p : Point) → is_set words p ≡ true → IsOn side p) → ((p : Point) → is_set words p ≡ same_cell (stone_in black white p) k) → AreRowsOf side (λ p. same_cell (cell_at (grid_with side black white) p) k) (take side words)
  front k words long on is = grind (arith, common_steps, bit_in, cell_at-grid_of, length-take-le, row_below)

  pub black_front : AreRowsOf side (λ p. same_cell (cell_at (grid_with side black white) p) Black) (take side black)
  black_front = front Black black are.black_rows are.black_on (λ p. black_is (is_set black p) (is_set white p))

  pub white_front : AreRowsOf side (λ p. same_cell (cell_at (grid_with side black white) p) White) (take side white)
  white_front = front White white are.white_rows are.white_on (λ p. white_is (is_set black p) (is_set white p) (are.apart p))

-- as many cells as points
pub all_cells : (side : ℕ) (black white : List ℕ) (g : Grid) → grid_with side black white ≡ g → length g.cells ≡ g.side * g.side
all_cells side black white g is = sym (ap (λ (h : Grid). length h.cells) is) ∙ length-grid_of side (stone_in black white) ∙ ap (λ (h : Grid). h.side * h.side) is

-- rows of one grid are the same, and grids with the same rows
pub bit_same : (x y c : ℕ) → has_bit x c ≡ has_bit y c → bit_at x c ≡ bit_at y c
bit_same x y c e = grind (arith, common_steps, bit_at-gone, bit_at-there)

rows_one : (side : ℕ) (test : Point → Bool) (a b : List ℕ) → length a ≡ length b → AreRowsOf side test a → AreRowsOf side test b → a ≡ b
rows_one side test a b long one two =
    ext_get_or 0 a b long
    (λ r below.
    same_from_bits (get_or a r 0) (get_or b r 0)
    (λ c.
    let p : Point = record { col = c; row = r } in
    bit_same (get_or a r 0) (get_or b r 0) c
    (same_bools (is_set a p) (is_set b p)
    (λ is. let on = one.off p is in two.on p on ∙ sym (one.on p on) ∙ is)
    (λ is. let on = two.off p is in one.on p on ∙ sym (two.on p on) ∙ is))))

same_words : (side : ℕ) (a b c d : List ℕ) → AreStones side a b → AreStones side c d → grid_with side a b ≡ grid_with side c d → (take side a ≡ take side c) × (take side b ≡ take side d)
same_words side a b c d first second same = (
  rows_one side _ _ _ (long a first.black_rows ∙ sym (long c second.black_rows)) (black_front side a b first) (subst (λ h. AreRowsOf side (λ p. same_cell (cell_at h p) Black) (take side c)) (sym same) (black_front side c d second)),
  rows_one side _ _ _ (long b first.white_rows ∙ sym (long d second.white_rows)) (white_front side a b first) (subst (λ h. AreRowsOf side (λ p. same_cell (cell_at h p) White) (take side d)) (sym same) (white_front side c d second)),
)
  where
    long : (words : List ℕ) → length words ≡ 52 → length (take side words) ≡ side
    long words all = length-take-le side words (rw all first.few)

same_grid : (side : ℕ) (a b c d : List ℕ) → take side a ≡ take side c → take side b ≡ take side d → grid_with side a b ≡ grid_with side c d
same_grid side a b c d black white =
    same_colours side (stone_in a b) (stone_in c d)
    (λ p on.
    ap (λ x. cond x Black (cond (is_set b p) White Empty)) (bits a c black p on)
    ∙ ap (λ x. cond (is_set c p) Black (cond x White Empty)) (bits b d white p on))
  where
    bits : (one other : List ℕ) → take side one ≡ take side other → (p : Point) → IsOn side p → is_set one p ≡ is_set other p
    bits one other same p on = sym (bit_in side one p on.1) ∙ ap (λ l. is_set l p) same ∙ bit_in side other p on.1

-- boards of one size are seen as the same grid exactly if the rows in front are the same
pub same_rows : (n side other : ℕ) (a b c d : List ℕ) (g h : Grid) → n ≡ side → side ≡ other → grid_with side a b ≡ g → grid_with other c d ≡ h → AreStones side a b → AreStones other c d → (((take n a ≡ take n c) × (take n b ≡ take n d)) ↔ (g ≡ h))
same_rows n side other a b c d g h all sizes is_g is_h first second =
    let grid : grid_with side c d ≡ h = ap (λ m. grid_with m c d) sizes ∙ is_h in
    subst (λ m. ((take m a ≡ take m c) × (take m b ≡ take m d)) ↔ (g ≡ h)) (sym all) (
      λ both. sym is_g ∙ same_grid side a b c d both.0 both.1 ∙ grid,
      λ e. same_words side a b c d first (subst (λ m. AreStones m c d) (sym sizes) second) (is_g ∙ e ∙ sym grid),
    )

-- the words of one colour with one row set
is_set-row : (words : List ℕ) (row word : ℕ) → row < length words → (q : Point) → is_set (set words row word) q ≡ cond (q.row == row) (has_bit word q.col) (is_set words q)
is_set-row words row word within q = grind (arith, common_steps, Decides-eqb, set_elsewhere, set_there)

-- the words of one kind of stone after points of a row were coloured
is_set-coloured : (words : List ℕ) (row columns word : ℕ) (c k : Cell) → row < length words → ((col : ℕ) → has_bit word col ≡ cond (has_bit columns col) (same_cell c k) (has_bit (get_or words row 0) col)) → (q : Point) → is_set (set words row word) q ≡ cond ((q.row == row) && has_bit columns q.col) (same_cell c k) (is_set words q)
is_set-coloured words row columns word c k within is q = grind (arith, common_steps, Decides-eqb, is_set-row)

chosen : (t : Bool) (c : Cell) (b w : Bool) → cond (cond t (same_cell c Black) b) Black (cond (cond t (same_cell c White) w) White Empty) ≡ cond t c (cond b Black (cond w White Empty))
chosen t c b w = grind (arith, common_steps, stone_is)

-- a board after points of a row were coloured
module _ (side : ℕ) (black white : List ℕ) (row columns : ℕ) (c : Cell) (b w : ℕ) (are : AreStones side black white) (below : row < side) (within : (col : ℕ) → has_bit columns col ≡ true → col < side) (in_black : (col : ℕ) → has_bit b col ≡ cond (has_bit columns col) (same_cell c Black) (has_bit (get_or black row 0) col)) (in_white : (col : ℕ) → has_bit w col ≡ cond (has_bit columns col) (same_cell c White) (has_bit (get_or white row 0) col)) where
  abbrev turned : Point → Bool
  turned q = (q.row == row) && has_bit columns q.col

  is_black : (q : Point) → is_set (set black row b) q ≡ cond (turned q) (same_cell c Black) (is_set black q)
  is_black = is_set-coloured black row columns b c Black (omega (arith, are.few, are.black_rows)) in_black

  is_white : (q : Point) → is_set (set white row w) q ≡ cond (turned q) (same_cell c White) (is_set white q)
  is_white = is_set-coloured white row columns w c White (omega (arith, are.few, are.white_rows)) in_white

  -- the words still hold the stones of a board
  AreStones-coloured : AreStones side (set black row b) (set white row w)
  AreStones-coloured = grind (arith, common_steps, is_black, is_white)

  grid-coloured : grid_with side (set black row b) (set white row w) ≡ with_columns (grid_with side black white) row columns c
  unfolding with_columns
  grid-coloured = search (rules, cell_at-grid_of, chosen, is_black, is_white, same_colours)

-- the same, by the grid that the board is seen as
pub coloured : (side : ℕ) (black white : List ℕ) (g : Grid) (row at columns : ℕ) (c : Cell) (b w : ℕ) → AreStones side black white → grid_with side black white ≡ g → at ≡ row → row < g.side → ((col : ℕ) → has_bit columns col ≡ true → col < g.side) → ((col : ℕ) → has_bit b col ≡ cond (has_bit columns col) (same_cell c Black) (has_bit (get_or black at 0) col)) → ((col : ℕ) → has_bit w col ≡ cond (has_bit columns col) (same_cell c White) (has_bit (get_or white at 0) col)) → AreStones side (set black at b) (set white at w) × (grid_with side (set black at b) (set white at w) ≡ with_columns g row columns c)
coloured side black white g row at columns c b w are is same below within in_black in_white =
    let size : side ≡ g.side = ap (λ (h : Grid). h.side) is in
    let at_below : at < side = omega arith in
    let on : (col : ℕ) → has_bit columns col ≡ true → col < side = λ col there. omega (arith, within col there) in (
      AreStones-coloured side black white at columns c b w are at_below on in_black in_white,
      grid-coloured side black white at columns c b w are at_below on in_black in_white ∙ ap (λ r. with_columns (grid_with side black white) r columns c) same ∙ ap (λ h. with_columns h row columns c) is,
    )

row_stone : (e b w x y : Bool) → cond (cond e (b && not w) x) Black (cond (cond e w y) White Empty) ≡ cond e (cond w White (cond b Black Empty)) (cond x Black (cond y White Empty))
row_stone e b w x y = grind (arith, common_steps)

-- a board after a row was set
module _ (side : ℕ) (black white : List ℕ) (row all b w : ℕ) (are : AreStones side black white) (below : row < side) (black_in : (col : ℕ) → has_bit all col ≡ true → col < side) (white_in : (col : ℕ) → has_bit w col ≡ true → col < side) (rest : (col : ℕ) → col < 64 → has_bit b col ≡ (has_bit all col && not (has_bit w col))) (off : (col : ℕ) → has_bit b col ≡ true → has_bit all col ≡ true) where
  in_black_rows : row < length black
  in_black_rows = omega (arith, below, are.few, are.black_rows)

  in_white_rows : row < length white
  in_white_rows = omega (arith, below, are.few, are.white_rows)

  AreStones-row : AreStones side (set black row b) (set white row w)
  AreStones-row = grind (arith, common_steps, is_set-row black row b in_black_rows, is_set-row white row w in_white_rows)

  grid-row : grid_with side (set black row b) (set white row w) ≡ with_row (grid_with side black white) row all w
  unfolding with_row
  grid-row =
      same_colours side _ _
      (λ q on. grind (arith, common_steps, is_set-row black row b in_black_rows q, is_set-row white row w in_white_rows q, rest q.col (omega (arith, on.0, are.few)), row_stone, cell_at-grid_of side (stone_in black white) q on))

pub row_set : (side : ℕ) (black white : List ℕ) (g : Grid) (row at all b w : ℕ) → AreStones side black white → grid_with side black white ≡ g → at ≡ row → row < g.side → ((col : ℕ) → has_bit all col ≡ true → col < g.side) → ((col : ℕ) → has_bit w col ≡ true → col < g.side) → ((col : ℕ) → col < 64 → has_bit b col ≡ (has_bit all col && not (has_bit w col))) → ((col : ℕ) → has_bit b col ≡ true → has_bit all col ≡ true) → AreStones side (set black at b) (set white at w) × (grid_with side (set black at b) (set white at w) ≡ with_row g row all w)
row_set side black white g row at all b w are is same below black_in white_in rest off =
    let size : side ≡ g.side = ap (λ (h : Grid). h.side) is in
    let at_below : at < side = omega arith in
    let all_on : (col : ℕ) → has_bit all col ≡ true → col < side = λ col there. omega (arith, black_in col there) in
    let w_on : (col : ℕ) → has_bit w col ≡ true → col < side = λ col there. omega (arith, white_in col there) in (
      AreStones-row side black white at all b w are at_below all_on w_on rest off,
      grid-row side black white at all b w are at_below all_on w_on rest off ∙ ap (λ r. with_row (grid_with side black white) r all w) same ∙ ap (λ h. with_row h row all w) is,
    )

-- one point coloured is a grid with that point coloured
pub one_coloured : (g : Grid) (p : Point) (row columns : ℕ) (c : Cell) → IsOn g.side p → length g.cells ≡ g.side * g.side → row ≡ p.row → has_bit columns p.col ≡ true → ((k : ℕ) → k ≢ p.col → has_bit columns k ≡ false) → with_columns g row columns c ≡ with_cell g p c
unfolding with_columns
one_coloured g p row columns c on all at there elsewhere =
    grid_of-cells (with_cell g p c) _ (length-set g.cells (index_of g.side p) c ∙ all)
    (λ q on_board.
    elim (same_or_not q p) [
      | inl same ↦ rw same (grind (arith, common_steps, Decides-eqb, cell_at-with_cell g p c on all))
      | inr other ↦ grind (arith, common_steps, Decides-eqb, one_point q p, elsewhere q.col, cell_at-with_cell_elsewhere g p q c on on_board other)
    ])

-- a word with some columns as they are to be
pub columns_set : (word columns c : ℕ) → has_bit (bit_or word columns) c ≡ cond (has_bit columns c) true (has_bit word c)
columns_set word columns c = grind (arith, common_steps, has_bit-or)

-- a word without some columns, or with them
pub recoloured : (word columns put c : ℕ) (asked wanted : Bool) → word < 2 ^ 64 → columns < 2 ^ 64 → asked ≡ wanted → put ≡ cond asked columns 0 → has_bit (bit_or (bit_and word (bit_not w64 columns)) put) c ≡ cond (has_bit columns c) wanted (has_bit word c)
recoloured word columns put c asked wanted fits low same is = grind (arith, common_steps, has_bit-or, has_bit-less, has_bit-zero)

-- a stone that is added on an empty point
none_there : (black white : Bool) → cond black Black (cond white White Empty) ≡ Empty → (black ≡ false) × (white ≡ false)
none_there black white is = grind (arith, common_steps)

module _ (side : ℕ) (black white : List ℕ) (g : Grid) (p : Point) (columns : ℕ) (are : AreStones side black white) (is : grid_with side black white ≡ g) (on : IsOn g.side p) (empty : cell_at g p ≡ Empty) (all : length g.cells ≡ g.side * g.side) (there : has_bit columns p.col ≡ true) (elsewhere : (k : ℕ) → k ≢ p.col → has_bit columns k ≡ false) where
  unset : (is_set black p ≡ false) × (is_set white p ≡ false)
  unset = none_there (is_set black p) (is_set white p) (sym (cell_at-grid_of side (stone_in black white) p (subst (λ h. IsOn h.side p) (sym is) on)) ∙ ap (λ h. cell_at h p) is ∙ empty)

  one_column : (col : ℕ) → has_bit columns col ≡ true → col ≡ p.col
  one_column col set = elim (cases_eq col p.col) [ inl same ↦ same | inr other ↦ absurd (false≢true (sym (elsewhere col other) ∙ set)) ]

  -- the word of the other colour
  kept : (word : ℕ) → has_bit word p.col ≡ false → (col : ℕ) → has_bit word col ≡ cond (has_bit columns col) false (has_bit word col)
  kept word none col = grind (arith, common_steps, cases_Bool, one_column)

  within : (col : ℕ) → has_bit columns col ≡ true → col < g.side
  within col set = rw (one_column col set) on.0

  abbrev black_row : ℕ
  black_row = get_or black p.row 0

  abbrev white_row : ℕ
  white_row = get_or white p.row 0

  pub black_added : AreStones side (set black p.row (bit_or black_row columns)) white × (grid_with side (set black p.row (bit_or black_row columns)) white ≡ with_cell g p Black)
  black_added =
      let new = coloured side black white g p.row p.row columns Black (bit_or black_row columns) white_row are is refl on.1 within (columns_set black_row columns) (kept white_row unset.1) in
      subst (λ l. AreStones side (set black p.row (bit_or black_row columns)) l × (grid_with side (set black p.row (bit_or black_row columns)) l ≡ with_cell g p Black)) (set-get_or white p.row 0)
      (new.0, new.1 ∙ one_coloured g p p.row columns Black on all refl there elsewhere)

  pub white_added : AreStones side black (set white p.row (bit_or white_row columns)) × (grid_with side black (set white p.row (bit_or white_row columns)) ≡ with_cell g p White)
  white_added =
      let new = coloured side black white g p.row p.row columns White black_row (bit_or white_row columns) are is refl on.1 within (kept black_row unset.0) (columns_set white_row columns) in
      subst (λ l. AreStones side l (set white p.row (bit_or white_row columns)) × (grid_with side l (set white p.row (bit_or white_row columns)) ≡ with_cell g p White)) (set-get_or black p.row 0)
      (new.0, new.1 ∙ one_coloured g p p.row columns White on all refl there elsewhere)

-- a board on which nothing stands
pub AreStones-none : (side : ℕ) (black white : List ℕ) → side ≤ 52 → black ≡ replicate 52 0 → white ≡ replicate 52 0 → AreStones side black white × (grid_with side black white ≡ empty_grid side)
AreStones-none side black white small no_black no_white = (
  record {
    few = small;
    black_rows = ap (λ (l : List ℕ). length l) no_black ∙ length-replicate {A = ℕ} 52 0;
    white_rows = ap (λ (l : List ℕ). length l) no_white ∙ length-replicate {A = ℕ} 52 0;
    black_on = λ p there. absurd (false≢true (sym (none black no_black p) ∙ there));
    white_on = λ p there. absurd (false≢true (sym (none white no_white p) ∙ there));
    apart = λ p there. none white no_white p;
  },
  grid_of-cells (empty_grid side) (stone_in black white) (length-replicate (side * side) Empty)
      (λ p on. rw (none black no_black p, none white no_white p) (sym (get_or-replicate_default (side * side) (index_of side p) Empty))),
)
  where
    none : (words : List ℕ) → words ≡ replicate 52 0 → (p : Point) → is_set words p ≡ false
    none words is p = ap (λ l. is_set l p) is ∙ is_set-none 52 p

-- as many of a board's rows as it has, of one colour
pub rows_front : (g h : Grid) (words : List ℕ) (n : ℕ) (wanted : Cell) → h ≡ g → n ≡ h.side → h.side ≤ length words → AreRowsOf h.side (λ p. same_cell (cell_at h p) wanted) (take h.side words)
    → AreRowsOf g.side (λ p. same_cell (cell_at g p) wanted) (take n words) × (length (take n words) ≡ g.side)
rows_front g h words n wanted is all long are = rw (← is, all) (are, length-take-le h.side words long)
