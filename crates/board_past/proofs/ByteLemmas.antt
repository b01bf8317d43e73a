-- The table of the numbers of bytes is right.
use Rattle.board_past.proofs.Common.{◌≡◌, ℕ, ◌%◌, ◌<◌, List, map, get_or, refl, ap, ◌∙◌, arith, bit_at, word_number, range_with_len, get_or-map-range_with_len, bit_at-mod, NUMBERS}
use Rattle.board_past.proofs.PrintLemmas.{in_base-same}

all_numbers : NUMBERS ≡ map (word_number 8) (range_with_len 0 256)
all_numbers = refl

number_at : (byte : ℕ) → byte < 256 → get_or NUMBERS byte 0 ≡ word_number 8 byte
number_at byte few = ap (λ (l : List ℕ). get_or l byte 0) all_numbers ∙ get_or-map-range_with_len (word_number 8) 0 256 byte byte 0 few (omega arith)

pub low_byte : (word : ℕ) → get_or NUMBERS (word % 256) 0 ≡ word_number 8 word
low_byte word =
    number_at (word % 256) (omega arith)
    ∙ in_base-same 31 8 (bit_at (word % 256)) (bit_at word) (λ i low. bit_at-mod word 8 i low)
