-- The hash of a colouring: 64 bits of the SHA-512 of its rows.
use Rattle.std.specs.Prelude.{◌≡◌, ◌≢◌, ℕ, zero, suc, ◌+◌, ◌*◌, ◌<◌, ◌≤◌, Bool, if◌then◌else◌, List, [], ◌++◌, take, length, slice_index}
use Rattle.std.specs.Int.{w64, div_ceil, from_be_bytes, to_le_bytes}
use Rattle.sha2.specs.Sha512.{sha512}
use Rattle.board_stones.specs.declared.stones.Cell.{Cell}
use Rattle.board_stones.specs.declared.stones.Cell.TheVariants.{Black, White}
use Rattle.board_stones.specs.Colour.{same_cell}
use Rattle.board_stones.specs.Grid.{Grid, cell_at}
use Rattle.board_past.specs.Past.{Held}
use Rattle.board_past.specs.inner.Changes.{IsNumber}

-- the number that has so many bits, the lowest one first
abbrev pub number_of : ℕ → (ℕ → Bool) → ℕ
number_of zero bit = 0
number_of (suc n) bit = (if bit 0 then 1 else 0) + 2 * number_of n (λ i. bit (suc i))

-- the columns of a row that have such a stone, as a number with a bit for each
abbrev pub columns_of : Grid → Cell → ℕ → ℕ
columns_of grid stone row = number_of grid.side (λ col. same_cell (cell_at grid (record { col = col; row = row })) stone)

-- the bytes of a word that has the columns of a row, 8 to a byte
abbrev pub columns_bytes : ℕ → ℕ → List ℕ
columns_bytes side columns = take (div_ceil side 8) (to_le_bytes w64 columns)

-- the bytes of the first rows: for each row those of Black, then those of White
abbrev pub rows_bytes : Grid → ℕ → List ℕ
rows_bytes grid zero = []
rows_bytes grid (suc row) =
    rows_bytes grid row ++ columns_bytes grid.side (columns_of grid Black row) ++ columns_bytes grid.side (columns_of grid White row)

-- the hash: the first eight bytes of the digest of all rows, as a number
unfoldable pub hash_of : Grid → ℕ
hash_of grid = from_be_bytes w64 (sha512 (rows_bytes grid grid.side))

-- each hash that is kept, by the number of its colouring, is that of the colouring; 0 says that none is kept
pub record HasHashes (held : List Held) (known : List ℕ) : Type 0 where
  pub few : length known ≤ length held
  pub right : (number : ℕ) (grid : Grid) → number < length known → IsNumber held number grid → slice_index known number ≢ 0 → slice_index known number ≡ hash_of grid
