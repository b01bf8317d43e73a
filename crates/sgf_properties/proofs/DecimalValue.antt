-- The value of digits: at one more digit, and how large it is.
use Rattle.sgf_properties.proofs.Common.{◌≡◌, ℕ, suc, ◌+◌, ◌-◌, ◌*◌, ◌^◌, ◌<◌, ◌≤◌, true, ◌&&◌, List, [], ◌∷◌, ◌++◌, length, take, get_or, ap, ◌∙◌, arith, length-append, rules, pow-suc, mul-le-mul_right, length-take-le, list_all, common_steps, take_more, is_digit, decimal_value}
use Rattle.std.proofs.Math.Bool.{and-true}
use Rattle.std.proofs.Math.Nat.{pow-le-pow_right}
use Rattle.std.proofs.lemmas.List.Folds.{list_all-append}

decimal_value-append_digit : (ds : List ℕ) (d : ℕ) → decimal_value (ds ++ d ∷ []) ≡ 10 * decimal_value ds + (d - 48)
decimal_value-append_digit [] d = omega arith
decimal_value-append_digit (x ∷ ds) d =
    let more = decimal_value-append_digit ds d in
    let one_more : length (ds ++ d ∷ []) ≡ suc (length ds) = omega (arith, length-append ds (d ∷ [])) in
    let size : 10 ^ length (ds ++ d ∷ []) ≡ 10 ^ length ds * 10 =
    ap (λ n. 10 ^ n) one_more ∙ pow-suc 10 (length ds)
    in
    omega (arith, ap (λ p. (x - 48) * p) size)

pub decimal_value_more : (ds : List ℕ) (i : ℕ) → i < length ds → decimal_value (take (i + 1) ds) ≡ 10 * decimal_value (take i ds) + (get_or ds i 0 - 48)
decimal_value_more ds i h = grind (arith, common_steps, take_more, decimal_value-append_digit)

pub digits_more : (ds : List ℕ) (i : ℕ) → i < length ds → list_all is_digit (take (i + 1) ds) ≡ (list_all is_digit (take i ds) && is_digit (get_or ds i 0))
digits_more ds i h = grind (arith, common_steps, take_more, list_all-append, and-true)

decimal_value-lt : (ds : List ℕ) → list_all is_digit ds ≡ true → decimal_value ds < 10 ^ length ds
decimal_value-lt [] h = omega arith
decimal_value-lt (d ∷ ds) h =
    let rest : list_all is_digit ds ≡ true = grind arith in
    search (rules, mul-le-mul_right, pow-suc, (decimal_value-lt ds rest))

-- at most n digits
pub decimal_value_take : (ds : List ℕ) (i n : ℕ) → i ≤ length ds → i ≤ n → list_all is_digit (take i ds) ≡ true → decimal_value (take i ds) < 10 ^ n
decimal_value_take ds i n h k a = grind (arith, common_steps, decimal_value-lt, length-take-le, pow-le-pow_right)
