-- Words as sets of columns: the columns of a row, those between two of them, and a word with a column added or taken.
use Rattle.board_points.proofs.Common.{◌≡◌, ◌≢◌, inl, inr, ℕ, ◌+◌, ◌-◌, ◌*◌, ◌^◌, ◌%◌, ◌<◌, ◌==◌, ◌||◌, ◌&&◌, Bool, true, false, not, bit_and, bit_or, w64, refl, sym, ap, ◌∙◌, arith, ◌≤◌, mod-eq_of_lt, pow_pos, bit_at, bit_not, trailing_zeros, leading_zeros, or-true, and-true, and-false, or_right, and_parts, and_from, false≢true, cases_eq, cases_lt, common_steps, pow_below, mod_below, leading_top, bit_at_set_same, bit_at_set_other, bit_at_mask_inside, bit_at_mask_above, bit_at_mask_below, bit_at-trailing_zeros, bit_at_cat_high, has_bit, AreAllColumns, IsPart, two-pow-succ, nat_le, leb-true, le-leb}
use Rattle.board_points.proofs.WordLemmas.{has_bit-zero, has_bit-less, same_bools, le_from_part}

-- a word with one bit set
pub set_bit_there : (word col : ℕ) (b : Bool) → b ≡ true → col < 64 → has_bit (bit_or word (1 * 2 ^ col % 2 ^ 64)) col ≡ (has_bit word col || b)
set_bit_there word col b is low = ap (λ n. n == 1) (bit_at_set_same w64 word col low) ∙ sym (or_right (has_bit word col) b is)

pub set_bit_elsewhere : (word col : ℕ) → col < 64 → (k : ℕ) → k ≢ col → has_bit (bit_or word (1 * 2 ^ col % 2 ^ 64)) k ≡ has_bit word k
set_bit_elsewhere word col low k other = ap (λ n. n == 1) (bit_at_set_other w64 word col low k other)

-- all columns of a row
mask_is : (side : ℕ) → side < 64 → 1 * 2 ^ side % 2 ^ 64 - 1 ≡ 2 ^ side - 2 ^ 0
mask_is side small = grind (arith, common_steps, mod-eq_of_lt, pow_below)

pub all_in_mask : (side : ℕ) → side < 64 → AreAllColumns side (1 * 2 ^ side % 2 ^ 64 - 1)
all_in_mask side small = record {
  within = λ col below. ap (λ n. has_bit n col) (mask_is side small) ∙ ap (λ n. n == 1) (bit_at_mask_inside 0 side col (omega arith) below);
  off = λ col is.
      elim (cases_lt col side) [
        | inl below ↦ below
        | inr past ↦ absurd (false≢true (sym (ap (λ n. has_bit n col) (mask_is side small) ∙ ap (λ n. n == 1) (bit_at_mask_above 0 side col past)) ∙ is))
      ];
}

-- the columns of a row that aren't in a set
abbrev pub AreOthers : ℕ → ℕ → ℕ → Type 0
AreOthers side word others =
    ((col : ℕ) → col < side → has_bit others col ≡ not (has_bit word col)) × ((col : ℕ) → has_bit others col ≡ true → col < side)

pub others_of_all : (side columns word : ℕ) → AreAllColumns side columns → columns < 2 ^ 64 → word < 2 ^ 64 → AreOthers side word (bit_and columns (bit_not w64 word))
others_of_all side columns word all fits low = grind (arith, common_steps, and_parts, has_bit-less)

-- a word without the bit of a column
abbrev bit_of : ℕ → ℕ
bit_of col = 1 * 2 ^ col % 2 ^ 64

small : (col : ℕ) → bit_of col < 2 ^ 64
small col = mod_below (1 * 2 ^ col) (2 ^ 64) (pow_pos 64)

bit_there : (col : ℕ) → col < 64 → has_bit (bit_of col) col ≡ true
bit_there col low = set_bit_there 0 col true refl low ∙ or-true (has_bit 0 col)

bit_elsewhere : (col : ℕ) → col < 64 → (k : ℕ) → k ≢ col → has_bit (bit_of col) k ≡ false
bit_elsewhere col low k other = set_bit_elsewhere 0 col low k other ∙ has_bit-zero k

pub without_there : (word col : ℕ) → word < 2 ^ 64 → col < 64 → has_bit (bit_and word (bit_not w64 (bit_of col))) col ≡ false
without_there word col fits low = grind (arith, common_steps, and-false, bit_there, has_bit-less, small)

pub without_elsewhere : (word col : ℕ) → word < 2 ^ 64 → col < 64 → (k : ℕ) → k ≢ col → has_bit (bit_and word (bit_not w64 (bit_of col))) k ≡ has_bit word k
without_elsewhere word col fits low k other = grind (arith, common_steps, and-true, bit_elsewhere, has_bit-less, small)

-- the columns from one to another
pub column_word : (k : ℕ) → k < 64 → 1 * 2 ^ k % 2 ^ 64 ≡ 2 ^ k
column_word k low = grind (arith, common_steps, mod-eq_of_lt, pow_below)

pub columns_between : (first last k : ℕ) → first ≤ last → last < 63 → has_bit (1 * 2 ^ (last + 1) % 2 ^ 64 - 1 * 2 ^ first % 2 ^ 64) k ≡ (nat_le first k && nat_le k last)
columns_between first last k ordered few = grind (arith, common_steps, and_from, and_parts, bit_at_mask_above, bit_at_mask_below, bit_at_mask_inside, column_word, le-leb, leb-true, nat_le, same_bools)

-- the lowest column of what is left
pub lowest_left : (columns left : ℕ) → left ≢ 0 → columns < 2 ^ 64 → IsPart (has_bit left) (has_bit columns) → (has_bit left (trailing_zeros w64 left) ≡ true) × (trailing_zeros w64 left < 64)
lowest_left columns left some low part =
    let found = bit_at-trailing_zeros w64 left (omega (arith, some)) (omega (arith, low, le_from_part left columns part)) in
    (ap (λ n. n == 1) found.1, found.0)

-- the highest column of a word
pub highest : (word : ℕ) → word < 2 ^ 64 → word ≢ 0 → has_bit word (63 - leading_zeros w64 word) ≡ true
highest word low some =
    let top = leading_top 64 word (omega (arith, some)) low in
    let j = top.0 in
    let at : 63 - leading_zeros w64 word ≡ j = omega (arith, top.1) in
    let whole : 1 * 2 ^ j + (word - 2 ^ j) ≡ word = omega (arith, top.2) in
    let under : word - 2 ^ j < 2 ^ j = omega (arith, top.2, top.3, two-pow-succ j) in
    let first : j - j ≡ 0 = omega arith in
    ap (has_bit word) at
    ∙ ap (λ n. n == 1)
    (ap (λ n. bit_at n j) (sym whole) ∙ bit_at_cat_high 1 j (word - 2 ^ j) j under (omega arith) ∙ ap (bit_at 1) first)

-- a word without one of its columns is a smaller number
pub without_smaller : (word next col : ℕ) → has_bit word col ≡ true → has_bit next col ≡ false → ((k : ℕ) → k ≢ col → has_bit next k ≡ has_bit word k) → next < word
without_smaller word next col is gone elsewhere =
    let part : IsPart (has_bit next) (has_bit word) = grind (arith, common_steps, cases_eq) in
    omega (arith, le_from_part next word part, (λ (same : next ≡ word). false≢true (sym gone ∙ ap (λ w. has_bit w col) same ∙ is)))
