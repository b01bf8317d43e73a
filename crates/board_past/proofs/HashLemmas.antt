-- The number of the columns of a row, by its bits.
use Rattle.board_past.proofs.Common.{◌≡◌, ℕ, zero, suc, ◌/◌, ◌%◌, ◌<◌, ◌==◌, Bool, true, if◌then◌else◌, inl, inr, sym, ap, ◌∙◌, arith, cases_Bool, bit_at-suc, bit_at-zero, bit_at_lowest, same_from_bits, has_bit, number_of, bit_at-gone}

digit_is : (n : ℕ) → n < 2 → (if n == 1 then 1 else 0) ≡ n
digit_is n low = grind arith

-- a number with exactly these bits
pub number_is : (n word : ℕ) (bit : ℕ → Bool) → ((i : ℕ) → i < n → has_bit word i ≡ bit i) → ((i : ℕ) → has_bit word i ≡ true → i < n) → word ≡ number_of n bit
number_is zero word bit within off =
    same_from_bits word 0
    (λ i. elim (cases_Bool (has_bit word i)) [
      | inl on ↦ absurd (omega (arith, off i on))
      | inr gone ↦ bit_at-gone word i gone ∙ sym (bit_at-zero i)
    ])
number_is (suc n) word bit within off =
    let first : (if bit 0 then 1 else 0) ≡ word % 2 =
    ap (λ (b : Bool). if b then 1 else 0) (sym (within 0 (omega arith)))
    ∙ ap (λ m. if m == 1 then 1 else 0) (bit_at_lowest word)
    ∙ digit_is (word % 2) (omega arith) in
    let next : (i : ℕ) → has_bit word (suc i) ≡ has_bit (word / 2) i = λ i. ap (λ m. m == 1) (bit_at-suc word i) in
    let rest : word / 2 ≡ number_of n (λ i. bit (suc i)) =
    number_is n (word / 2) (λ i. bit (suc i)) (λ i low. sym (next i) ∙ within (suc i) (omega (arith, low))) (λ i on. omega (arith, off (suc i) (next i ∙ on))) in
    omega (arith, first, rest)
