-- What a colouring is looked up by, as a string of bits: the words of the print, of the stretch, of the hash, and of each row of the board.
use Rattle.std.specs.Prelude.{ℕ, zero, suc, ◌/◌, ◌%◌, Bool, false, ◌==◌, ◌&&◌, nat_lt, if◌then◌else◌, List, [], ◌∷◌, length, drop, ◌-◌}
use Rattle.board_past.specs.declared.past.print_past.key.ColouringKey.{ColouringKey}
use Rattle.board_stones.specs.declared.stones.Cell.{Cell}
use Rattle.board_stones.specs.declared.stones.Cell.TheVariants.{Black, White}
use Rattle.board_stones.specs.Colour.{same_cell}
use Rattle.board_stones.specs.Grid.{Grid, cell_at}
use Rattle.board_past.specs.Past.{Held}
use Rattle.board_past.specs.inner.Hash.{hash_of}
use Rattle.board_past.specs.inner.Print.{print_of}
use Rattle.board_points.specs.Rows.{has_bit}

-- the point with this row and column has such a stone; outside of the grid there is none
abbrev pub has_stone : Grid → Cell → ℕ → ℕ → Bool
has_stone grid stone row col =
    (nat_lt row grid.side && nat_lt col grid.side) && same_cell (cell_at grid (record { col = col; row = row })) stone

-- A bit of a word of the key: word 0 is the print, word 1 the start of the stretch, word 2 the hash. Then each row has a word for Black and
-- one for White.
abbrev pub key_bit : ℕ → ℕ → ℕ → Grid → ℕ → ℕ → Bool
key_bit start print hash grid zero col = has_bit print col
key_bit start print hash grid (suc zero) col = has_bit start col
key_bit start print hash grid (suc (suc zero)) col = has_bit hash col
key_bit start print hash grid (suc (suc (suc index))) col =
    has_stone grid (if index % 2 == 0 then Black else White) (index / 2) col

-- the bits of the key
abbrev pub key_bits : ℕ → ℕ → ℕ → Grid → ℕ → Bool
key_bits start print hash grid position = key_bit start print hash grid (position / 64) (position % 64)

-- the bits of a key as it is kept
abbrev pub bits_of : ColouringKey → ℕ → Bool
bits_of key = key_bits key.start key.print key.hash key.board.now

-- the number of the first colouring of the newest stretch of these colourings, newest first
abbrev pub start_of : List Held → ℕ
start_of [] = 0
start_of (newest ∷ older) = if newest.begins then length older else start_of older

-- the colourings up to the one with this number, counted from 0 at the oldest; all are listed newest first
abbrev pub since : ℕ → List Held → List Held
since number held = drop (length held - 1 - number) held

-- the first `count` colourings
abbrev pub oldest : ℕ → List Held → List Held
oldest count held = drop (length held - count) held

-- what stands in a key for the hash of its colouring: the hash, or 0 if keys have no hashes
abbrev pub hash_in_key : Bool → Grid → ℕ
hash_in_key hashed grid = if hashed then hash_of grid else 0

-- the key of each past colouring, by its number, counted from 0 at the oldest; `hashed` says whether keys have hashes
abbrev pub keys_of : Bool → List Held → ℕ → ℕ → Bool
keys_of hashed [] number = λ position. false
keys_of hashed (newest ∷ older) number =
    if number == length older
    then key_bits (start_of (newest ∷ older)) (print_of newest.colouring) (hash_in_key hashed newest.colouring) newest.colouring
    else keys_of hashed older number
