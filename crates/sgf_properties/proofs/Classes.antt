-- The classes of bytes stand apart.
use Rattle.sgf_properties.proofs.Common.{◌≡◌, ◌≢◌, ℕ, ◌≤◌, false, ◌==◌, nat_le, ◌<◌, IsTrue, arith, leb-true, eqb-true, and_parts, or_cases, false_from_ne_true, is_white_space, is_upper, is_lower, nat_tests}

pub white-range : (b : ℕ) → IsTrue (is_white_space b) → b ≤ 32
white-range b h = grind (arith, nat_tests, or_cases)

pub upper-range : (b : ℕ) → IsTrue (is_upper b) → (65 ≤ b) × (b ≤ 90)
upper-range b h = let (x, y) = and_parts (nat_le 65 b) (nat_le b 90) h in (leb-true 65 b x, leb-true b 90 y)

pub lower-range : (b : ℕ) → IsTrue (is_lower b) → (97 ≤ b) × (b ≤ 122)
lower-range b h = let (x, y) = and_parts (nat_le 97 b) (nat_le b 122) h in (leb-true 97 b x, leb-true b 122 y)

pub upper-not_white_space : (b : ℕ) → IsTrue (is_upper b) → is_white_space b ≡ false
upper-not_white_space b h = false_from_ne_true (is_white_space b) (λ w. let u = upper-range b h in let v = white-range b w in omega arith)

pub white-not_upper : (b : ℕ) → IsTrue (is_white_space b) → is_upper b ≡ false
white-not_upper b h = false_from_ne_true (is_upper b) (λ w. let u = upper-range b w in let v = white-range b h in omega arith)

pub white-not_lower : (b : ℕ) → IsTrue (is_white_space b) → is_lower b ≡ false
white-not_lower b h = false_from_ne_true (is_lower b) (λ w. let u = lower-range b w in let v = white-range b h in omega arith)

pub lower-not_upper : (b : ℕ) → IsTrue (is_lower b) → is_upper b ≡ false
lower-not_upper b h = false_from_ne_true (is_upper b) (λ w. let u = upper-range b w in let v = lower-range b h in omega arith)

pub upper-not_bracket : (b : ℕ) → IsTrue (is_upper b) → b == 91 ≡ false
upper-not_bracket b h = false_from_ne_true (b == 91) (λ e. let u = upper-range b h in let v = eqb-true b 91 e in omega arith)

-- the bytes between a space and the capitals
pub between-not_white_space : (b : ℕ) → 32 < b → is_white_space b ≡ false
between-not_white_space b above = false_from_ne_true (is_white_space b) (λ w. let v = white-range b w in omega arith)

pub between-not_upper : (b : ℕ) → b < 65 → is_upper b ≡ false
between-not_upper b below = false_from_ne_true (is_upper b) (λ w. let u = upper-range b w in omega arith)

pub white-not_mark : (b : ℕ) → IsTrue (is_white_space b) → b == 239 ≡ false
white-not_mark b h = false_from_ne_true (b == 239) (λ e. let u = white-range b h in let v = eqb-true b 239 e in omega arith)

pub white-not_bracket : (b : ℕ) → IsTrue (is_white_space b) → b ≢ 91
white-not_bracket b h e = let u = white-range b h in omega arith
