-- Words as sets of columns: what the operations on words make of their bits.
use Rattle.board_points.proofs.Common.{◌≡◌, inl, inr, ℕ, zero, suc, ◌+◌, ◌-◌, ◌*◌, ◌/◌, ◌%◌, ◌^◌, ◌<◌, ◌≤◌, ◌==◌, ◌||◌, ◌&&◌, max, Bool, true, false, not, bit_and, bit_or, w64, refl, sym, ap, ◌∙◌, arith, subst, rules, eqb-true, pow_pos, bit_at, bit_not, not-true, false_from_ne_true, false≢true, cases_lt, eqb-false, common_steps, le_or_l, and_mask, mod_below, bit_at_and, bit_at_or, bit_at_not, bit_at_xor, bit_at-lt, bit_at-suc, bit_at-zero, bit_at_above, bit_at_ones, bit_at_cat_high, bit_at_cat_low, same_from_bits, has_bit, IsPart, AreAllColumns, AreColumnsOff, min, bit_xor}

-- what holds of each two bits
by_bits : (P : ℕ → ℕ → Type 0) → P zero zero → P zero (suc zero) → P (suc zero) zero → P (suc zero) (suc zero) → (x y : ℕ) → x < 2 → y < 2 → P x y
by_bits P none second first both zero zero hx hy = none
by_bits P none second first both zero (suc zero) hx hy = second
by_bits P none second first both (suc zero) zero hx hy = first
by_bits P none second first both (suc zero) (suc zero) hx hy = both
by_bits P none second first both _ _ hx hy = absurd (omega arith)

test_max : (x y : ℕ) → x < 2 → y < 2 → (max x y == 1) ≡ ((x == 1) || (y == 1))
test_max = by_bits (λ x y. (max x y == 1) ≡ ((x == 1) || (y == 1))) refl refl refl refl

test_min : (x y : ℕ) → x < 2 → y < 2 → (min x y == 1) ≡ ((x == 1) && (y == 1))
test_min = by_bits (λ x y. (min x y == 1) ≡ ((x == 1) && (y == 1))) refl refl refl refl

max_part : (x y : ℕ) → x < 2 → y < 2 → ((x == 1) ≡ true → (y == 1) ≡ true) → max x y ≡ y
max_part = grind (arith, common_steps, by_bits)

pub has_bit-or : (a b c : ℕ) → has_bit (bit_or a b) c ≡ (has_bit a c || has_bit b c)
has_bit-or a b c = ap (λ n. n == 1) (bit_at_or a b c) ∙ test_max (bit_at a c) (bit_at b c) (bit_at-lt a c) (bit_at-lt b c)

pub has_bit-and : (a b c : ℕ) → has_bit (bit_and a b) c ≡ (has_bit a c && has_bit b c)
has_bit-and a b c = ap (λ n. n == 1) (bit_at_and a b c) ∙ test_min (bit_at a c) (bit_at b c) (bit_at-lt a c) (bit_at-lt b c)

-- a bit of the one word and not of the other
test_without : (a b : ℕ) → a < 2 → b < 2 → (min a (1 - b) == 1) ≡ ((a == 1) && not (b == 1))
test_without = by_bits (λ a b. (min a (1 - b) == 1) ≡ ((a == 1) && not (b == 1))) refl refl refl refl

pub has_bit-without : (word other c : ℕ) → other < 2 ^ 64 → c < 64 → has_bit (bit_and word (bit_not w64 other)) c ≡ (has_bit word c && not (has_bit other c))
has_bit-without word other c low column = search (rules, bit_at-lt, bit_at_and, bit_at_not, test_without)

-- a column of a word of k bits is below k
pub column_below : (k a c : ℕ) → a < 2 ^ k → has_bit a c ≡ true → c < k
column_below k a c low is = grind (arith, common_steps, bit_at_above)

-- what is in the complement of a word
test_not : (a : ℕ) → a < 2 → (1 - a == 1) ≡ not (a == 1)
test_not a low = grind arith

pub has_bit-not : (word c : ℕ) → word < 2 ^ 64 → c < 64 → has_bit (bit_not w64 word) c ≡ not (has_bit word c)
has_bit-not word c low column = search (rules, bit_at-lt, bit_at_not, test_not)

pub in_complement : (word c : ℕ) → word < 2 ^ 64 → has_bit (bit_not w64 word) c ≡ true → (c < 64) × (has_bit word c ≡ false)
in_complement word c few is =
    let low : c < 64 = column_below 64 (bit_not w64 word) c (omega arith) is in
    (low, not-true _ (sym (has_bit-not word c few low) ∙ is))

from_not : (b : Bool) → not b ≡ false → b ≡ true
from_not b gone = grind (arith, false≢true)

pub columns_off : (side all : ℕ) → side < 64 → all < 2 ^ 64 → AreAllColumns side all → AreColumnsOff side (bit_not w64 all)
columns_off side all few low is = record {
  inside = λ col below. has_bit-not all col low (omega (arith, below, few)) ∙ ap not (is.within col below);
  outside = λ col column gone. is.off col (from_not _ (sym (has_bit-not all col low column) ∙ gone));
  last = has_bit-not all 63 low (omega arith) ∙ ap not (false_from_ne_true _ (λ (there : has_bit all 63 ≡ true). omega (arith, is.off 63 there, few)));
}

-- the same in every column, of words
pub has_bit-less : (word other c : ℕ) → word < 2 ^ 64 → other < 2 ^ 64 → has_bit (bit_and word (bit_not w64 other)) c ≡ (has_bit word c && not (has_bit other c))
has_bit-less word other c low few =
    elim (cases_lt c 64) [
      | inl inside ↦ has_bit-without word other c few inside
      | inr past ↦
          let none = ap (λ n. n == 1) (bit_at_above word 64 c low past) in
          has_bit-and word _ c ∙ ap (λ b. b && has_bit (bit_not w64 other) c) none ∙ sym (ap (λ b. b && not (has_bit other c)) none)
    ]

-- a bit of one of two bits that aren't equal, where the second is set only if the first is
test_apart : (a b : ℕ) → a < 2 → b < 2 → ((b == 1) ≡ true → (a == 1) ≡ true) → ((a + b) % 2 == 1) ≡ ((a == 1) && not (b == 1))
test_apart = by_bits (λ a b. ((b == 1) ≡ true → (a == 1) ≡ true) → ((a + b) % 2 == 1) ≡ ((a == 1) && not (b == 1))) (λ _. refl) (λ part. absurd (false≢true (part refl))) (λ _. refl) (λ _. refl)

pub has_bit_apart : (word part c : ℕ) → IsPart (has_bit part) (has_bit word) → has_bit (bit_xor word part) c ≡ (has_bit word c && not (has_bit part c))
has_bit_apart word part c within = ap (λ n. n == 1) (bit_at_xor word part c) ∙ test_apart (bit_at word c) (bit_at part c) (bit_at-lt word c) (bit_at-lt part c) (within c)

-- what isn't in a set isn't in a part of it
pub not_in_part : (some all : ℕ → Bool) (k : ℕ) → IsPart some all → all k ≡ false → some k ≡ false
not_in_part some all k part none = false_from_ne_true (some k) (λ is. false≢true (sym none ∙ part k is))

-- where nothing of the one is left without the other, what is in the one is in the other
pub in_the_other : (x y : Bool) → x ≡ true → (x && not y) ≡ false → y ≡ true
in_the_other x y is none = grind (arith, common_steps)

-- the bit of a column that is there, and of one that isn't
pub bit_at-there : (n c : ℕ) → has_bit n c ≡ true → bit_at n c ≡ 1
bit_at-there n c is = eqb-true (bit_at n c) 1 is

pub bit_at-gone : (n c : ℕ) → has_bit n c ≡ false → bit_at n c ≡ 0
bit_at-gone n c none = let other = eqb-false (bit_at n c) 1 none in omega (arith, bit_at-lt n c, other)

pub has_bit-zero : (c : ℕ) → has_bit 0 c ≡ false
has_bit-zero c = ap (λ n. n == 1) (bit_at-zero c)

min_one : (x : ℕ) → x < 2 → min x 1 ≡ x
min_one x h = grind arith

-- the low bits stay where the others are cut off
pub bit_at-mod : (n k i : ℕ) → i < k → bit_at (n % 2 ^ k) i ≡ bit_at n i
bit_at-mod n k i low =
    ap (λ m. bit_at m i) (sym (and_mask n k))
    ∙ bit_at_and n (2 ^ k - 1) i
    ∙ ap (λ b. min (bit_at n i) b) (bit_at_ones k i low)
    ∙ min_one (bit_at n i) (bit_at-lt n i)

-- bits shifted by one column
pub has_bit-low : (n c : ℕ) → c < 64 → has_bit (n % 2 ^ 64) c ≡ has_bit n c
has_bit-low n c low = ap (λ x. x == 1) (bit_at-mod n 64 c low)

pub has_bit-left : (a c : ℕ) → c + 1 < 64 → has_bit (a * 2 ^ 1 % 2 ^ 64) (c + 1) ≡ has_bit a c
has_bit-left a c low =
    has_bit-low (a * 2 ^ 1) (c + 1) low
    ∙ ap (λ x. x == 1) (ap (λ n. bit_at n (c + 1)) (omega arith) ∙ bit_at_cat_high a 1 0 (c + 1) (omega arith) (omega arith) ∙ ap (bit_at a) (omega arith))

has_bit-left_first : (a : ℕ) → has_bit (a * 2 ^ 1 % 2 ^ 64) 0 ≡ false
has_bit-left_first a = grind (arith, common_steps, bit_at-zero, bit_at_cat_low, has_bit-low)

pub from_left : (a c : ℕ) → has_bit (a * 2 ^ 1 % 2 ^ 64) c ≡ true → (d : ℕ) × (d + 1 ≡ c) × (has_bit a d ≡ true)
from_left a zero is = absurd (false≢true (sym (has_bit-left_first a) ∙ is))
from_left a (suc d) is =
    let low : suc d < 64 = column_below 64 (a * 2 ^ 1 % 2 ^ 64) (suc d) (mod_below (a * 2 ^ 1) (2 ^ 64) (pow_pos 64)) is in
    (d, omega arith, sym (has_bit-left a d (omega arith)) ∙ ap (has_bit (a * 2 ^ 1 % 2 ^ 64)) (omega arith) ∙ is)

pub has_bit-right : (a c : ℕ) → has_bit (a / 2 ^ 1) c ≡ has_bit a (suc c)
has_bit-right a c = ap (λ x. x == 1) (sym (bit_at-suc a c))

-- a part of a set of columns is no greater a number
pub le_from_part : (a b : ℕ) → IsPart (has_bit a) (has_bit b) → a ≤ b
le_from_part a b part =
    subst (λ n. a ≤ n) (same_from_bits (bit_or a b) b (λ i. grind (arith, common_steps, bit_at_or, max_part, bit_at-lt))) (le_or_l a b)

pub same_bools : (a b : Bool) → (a ≡ true → b ≡ true) → (b ≡ true → a ≡ true) → a ≡ b
same_bools a b there back = grind (arith, common_steps)

-- words with the same columns
test_same : (x y : ℕ) → x < 2 → y < 2 → (x == 1) ≡ (y == 1) → x ≡ y
test_same = by_bits (λ x y. (x == 1) ≡ (y == 1) → x ≡ y) (λ _. refl) (λ same. absurd (false≢true same)) (λ same. absurd (false≢true (sym same))) (λ _. refl)

pub same_word : (a b : ℕ) → ((c : ℕ) → has_bit a c ≡ has_bit b c) → a ≡ b
same_word a b each = same_from_bits a b (λ i. test_same (bit_at a i) (bit_at b i) (bit_at-lt a i) (bit_at-lt b i) (each i))
