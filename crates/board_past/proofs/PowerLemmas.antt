-- The tables of powers of 31 are right.
use Rattle.board_past.proofs.Common.{◌≡◌, ℕ, ◌*◌, ◌/◌, ◌%◌, ◌^◌, ◌<◌, List, map, get_or, refl, ap, ◌∙◌, arith, pow-add, mul-mod, range_with_len, get_or-map-range_with_len, mod-add-div}
use Rattle.board_past.specs.declared.past.print_past.powers.TheConstants.{LOW, HIGH}

abbrev low : ℕ → ℕ
low exponent = 31 ^ exponent % 2 ^ 64

abbrev high : ℕ → ℕ
high times = 31 ^ (64 * times) % 2 ^ 64

all_low : LOW ≡ map low (range_with_len 0 64)
all_low = refl

all_high : HIGH ≡ map high (range_with_len 0 64)
all_high = refl

pub low_power : (exponent : ℕ) → exponent < 64 → get_or LOW exponent 0 ≡ 31 ^ exponent % 2 ^ 64
low_power exponent few = ap (λ (l : List ℕ). get_or l exponent 0) all_low ∙ get_or-map-range_with_len low 0 64 exponent exponent 0 few (omega arith)

high_power : (times : ℕ) → times < 64 → get_or HIGH times 0 ≡ 31 ^ (64 * times) % 2 ^ 64
high_power times few = ap (λ (l : List ℕ). get_or l times 0) all_high ∙ get_or-map-range_with_len high 0 64 times times 0 few (omega arith)

pub any_power : (exponent : ℕ) → exponent < 2704 → (get_or LOW (exponent % 64) 0 * get_or HIGH (exponent / 64) 0) % 2 ^ 64 ≡ 31 ^ exponent % 2 ^ 64
any_power exponent few = grind (arith, high_power, low_power, mod-add-div, mul-mod, pow-add)
