-- Keys of colourings: their words, and what keys that agree tell.
use Rattle.board_past.proofs.Common.{◌≡◌, ℕ, ◌+◌, ◌-◌, ◌*◌, ◌^◌, ◌<◌, ◌≤◌, ◌==◌, if◌then◌else◌, length, sym, ◌∙◌, arith, lt-ltb, cases_lt, same_from_bits_below, has_bit, Agree, Cell, Black, White, same_cell, Grid, cell_at, has_stone, key_bit, key_bits, one_colouring, bit_same, same_stones}

-- The front of a key: the print, and the start of the stretch.

key_at : (start print hash : ℕ) (grid : Grid) (index col : ℕ) → col < 64 → key_bits start print hash grid (64 * index + col) ≡ key_bit start print hash grid index col
key_at start print hash grid index col low = grind arith

-- the bit at a position, by the word that it is in
key_in : (start print hash : ℕ) (grid : Grid) (index position : ℕ) → 64 * index ≤ position → position < 64 * index + 64 → key_bits start print hash grid position ≡ key_bit start print hash grid index (position - 64 * index)
key_in start print hash grid index position from before = grind (arith, key_at)

-- the first bits of a key are those of its print
pub print_bit : (start print hash : ℕ) (grid : Grid) (position : ℕ) → position < 64 → key_bits start print hash grid position ≡ has_bit print position
print_bit start print hash grid position low = grind (arith, key_at)

module _ (start start' print print' hash hash' : ℕ) (grid grid' : Grid) where
  pub front_same : start < 2 ^ 64 → start' < 2 ^ 64 → print < 2 ^ 64 → print' < 2 ^ 64 → Agree (key_bits start print hash grid) (key_bits start' print' hash' grid') 128 → (start ≡ start') × (print ≡ print')
  front_same few few' small small' a = (
    same_from_bits_below 64 start start' few few' (λ i h. bit_same start start' i (
        sym (key_at start print hash grid 1 i h) ∙ a.each (64 * 1 + i) (omega (arith, h)) ∙ key_at start' print' hash' grid' 1 i h
        )),
    same_from_bits_below 64 print print' small small' (λ i h. bit_same print print' i (
        sym (key_at start print hash grid 0 i h) ∙ a.each (64 * 0 + i) (omega (arith, h)) ∙ key_at start' print' hash' grid' 0 i h
        )),
  )

  pub front_agrees : start ≡ start' → print ≡ print' → Agree (key_bits start print hash grid) (key_bits start' print' hash' grid') 128
  front_agrees e f = grind (arith, cases_lt, key_in)

-- the words before those of the board
pub head_agrees : (start print hash : ℕ) (grid grid' : Grid) → Agree (key_bits start print hash grid) (key_bits start print hash grid') 192
head_agrees start print hash grid grid' = grind (arith, cases_lt, front_agrees, key_in)

-- The whole of a key.

stone-on : (grid : Grid) (stone : Cell) (row col : ℕ) → row < grid.side → col < grid.side → has_stone grid stone row col ≡ same_cell (cell_at grid (record { col = col; row = row })) stone
stone-on grid stone row col low left = grind (arith, lt-ltb)

-- the word of a row for Black, and the one for White
stone_at : (start print hash : ℕ) (grid : Grid) (row col white : ℕ) → col < 64 → white < 2 → key_bits start print hash grid (64 * (2 * row + 3 + white) + col) ≡ has_stone grid (if white == 0 then Black else White) row col
stone_at start print hash grid row col white left few = grind (arith, key_at)

pub whole_same : (start start' print print' hash hash' : ℕ) (grid grid' : Grid) → grid.side ≡ grid'.side → grid.side ≤ 52 → length grid.cells ≡ grid.side * grid.side → length grid'.cells ≡ grid'.side * grid'.side
    → Agree (key_bits start print hash grid) (key_bits start' print' hash' grid') 6848 → grid ≡ grid'
whole_same start start' print print' hash hash' grid grid' side few all all' a =
    one_colouring grid grid' side all all'
    (λ p on.
    let row = p.row in
    let col = p.col in
    let left : col < 64 = omega (arith, on.0, few) in
    let left' : col < grid'.side = omega (arith, on.0, side) in
    let same : (white : ℕ) → white < 2 → same_cell (cell_at grid p) (if white == 0 then Black else White) ≡ same_cell (cell_at grid' p) (if white == 0 then Black else White) = λ white two.
    sym (stone-on grid (if white == 0 then Black else White) row col on.1 on.0)
    ∙ sym (stone_at start print hash grid row col white left two)
    ∙ a.each (64 * (2 * row + 3 + white) + col) (omega (arith, on.1, few, left, two))
    ∙ stone_at start' print' hash' grid' row col white left two
    ∙ stone-on grid' (if white == 0 then Black else White) row col (omega (arith, on.1, side)) left' in
    same_stones (cell_at grid p) (cell_at grid' p) (same 0 (omega arith)) (same 1 (omega arith)))
