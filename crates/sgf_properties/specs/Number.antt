-- The value of a number (SGF FF[4]: Number = [ "+" | "-" ] Digit { Digit }). The limit of 18 digits is this project's choice.
use Rattle.std.specs.Prelude.{ℕ, ◌+◌, ◌-◌, ◌*◌, ◌^◌, ◌==◌, nat_le, ◌&&◌, Bool, if◌then◌else◌, List, [], ◌∷◌, length, ℤ, pos, neg_ℤ, Option, Some, None, option_map}
use Rattle.std.specs.List.{list_all}
use Rattle.sgf_properties.specs.Bytes.{plus, minus, digit_zero, digit_nine}

-- 0 to 9
abbrev pub is_digit : ℕ → Bool
is_digit b = nat_le digit_zero b && nat_le b digit_nine

-- the sum of the digits, each times its power of ten
abbrev pub decimal_value : List ℕ → ℕ
decimal_value [] = 0
decimal_value (digit ∷ rest) = (digit - digit_zero) * 10 ^ length rest + decimal_value rest

-- 1 to 18 digits and nothing else
abbrev pub are_digits : List ℕ → Bool
are_digits ds = nat_le 1 (length ds) && nat_le (length ds) 18 && list_all is_digit ds

abbrev pub magnitude_of : List ℕ → Option ℕ
magnitude_of ds = if are_digits ds then Some (decimal_value ds) else None

-- `+`, `-` or no sign, and then digits
abbrev pub number_of : List ℕ → Option ℤ
number_of [] = None
number_of (first ∷ rest) =
    if first == plus then option_map pos (magnitude_of rest)
    else (if first == minus then option_map (λ n. neg_ℤ (pos n)) (magnitude_of rest)
    else option_map pos (magnitude_of (first ∷ rest)))
