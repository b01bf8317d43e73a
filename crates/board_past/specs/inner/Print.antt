-- The print of a colouring: one number made from what stands on all its points.
use Rattle.std.specs.Prelude.{◌≡◌, ℕ, zero, suc, ◌+◌, ◌*◌, ◌%◌, ◌^◌, List, map, if◌then◌else◌, slice_index}
use Rattle.std.specs.Int.{bit_at}
use Rattle.std.specs.List.{fold}
use Rattle.board_stones.specs.declared.stones.Cell.{Cell}
use Rattle.board_stones.specs.declared.stones.Cell.TheVariants.{Black, White, Empty}
use Rattle.board_stones.specs.declared.stones.Colour.{Colour}
use Rattle.board_points.specs.declared.points.Point.{Point}
use Rattle.board_stones.specs.Grid.{Grid, cell_at}
use Rattle.board_stones.specs.Clearing.{play}
use Rattle.board_past.specs.Past.{Held}
use Rattle.board_stones.specs.Move.{IsMove}
use Rattle.board_points.specs.Rows.{has_bit}

-- the digit that a cell is in the print
abbrev pub code : Cell → ℕ
code Empty = 0
code Black = 1
code White = 2

-- The print, a 64-bit number. The codes of the cells are the digits of a number in base 31: row by row from the top, from left to
-- right. The print is that number modulo 2^64.
unfoldable pub print_of : Grid → ℕ
print_of grid = fold (λ print cell. (31 * print + code cell) % 2 ^ 64) 0 grid.cells

-- the prints of past colourings
abbrev pub prints_of : List Held → List ℕ
prints_of held = map (λ (one : Held). print_of one.colouring) held

-- the number that has so many digits in a base; the first digit comes first
abbrev pub in_base : ℕ → ℕ → (ℕ → ℕ) → ℕ
in_base base zero digit = 0
in_base base (suc n) digit = base * in_base base n digit + digit n

-- the number whose digits are the cells of a row
abbrev pub row_number : Grid → ℕ → ℕ
row_number grid row = in_base 31 grid.side (λ col. code (cell_at grid (record { col = col; row = row })))

-- the number whose digits are the first columns of a word: 1 for a column that it has, 0 for any other
abbrev pub word_number : ℕ → ℕ → ℕ
word_number side word = in_base 31 side (bit_at word)

-- the number of those cells of a row whose columns a word has; the others count as empty
abbrev pub row_within : Grid → ℕ → ℕ → ℕ
row_within grid columns row =
    in_base 31 grid.side
    (λ col. code (if has_bit columns col then cell_at grid (record { col = col; row = row }) else Empty))

-- the number of those cells of a grid that a set has
abbrev pub number_within : Grid → List ℕ → ℕ
number_within grid points = in_base (31 ^ grid.side) grid.side (λ row. row_within grid (slice_index points row) row)

-- a stone that is put on an empty point, what it clears, and the print of the colouring that it makes
pub record IsPrintedMove (grid : Grid) (colour : Colour) (point : Point) (rows : List ℕ) (number : ℕ) : Type 0 where
  pub move : IsMove grid colour point rows
  pub print : number ≡ print_of (play grid colour point)
