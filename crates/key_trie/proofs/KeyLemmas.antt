-- Words and their bits: where two keys differ.
use Rattle.key_trie.proofs.Common.{◌≡◌, ◌≢◌, ℕ, ◌+◌, ◌-◌, ◌*◌, ◌<◌, ◌≤◌, ◌==◌, Bool, bit_xor, inl, inr, sym, subst, ◌∙◌, arith, cases_lt, false≢true, Agree, bit_at, bit_at_xor, bit_at-lt}

-- Words that differ.

pub same_bit : (a b i : ℕ) → bit_at (bit_xor a b) i ≡ 0 → (bit_at a i == 1) ≡ (bit_at b i == 1)
same_bit a b i e = grind (arith, bit_at-lt, bit_at_xor)

one_bit : (x y : ℕ) → x < 2 → y < 2 → (x == 1) ≡ (y == 1) → x ≡ y
one_bit x y h g e = grind (arith, false≢true)

pub other_bits : (a b i : ℕ) → bit_at (bit_xor a b) i ≡ 1 → (bit_at a i == 1) ≢ (bit_at b i == 1)
other_bits a b i e same = grind (arith, bit_at-lt, bit_at_xor, one_bit)

-- one word more of two keys
module _ (x y : ℕ → Bool) (a b index : ℕ) (is_a : (col : ℕ) → col < 64 → (bit_at a col == 1) ≡ x (64 * index + col)) (is_b : (col : ℕ) → col < 64 → (bit_at b col == 1) ≡ y (64 * index + col)) (before : Agree x y (64 * index)) where
  pub agree_farther : (n : ℕ) → n ≤ 64 → ((i : ℕ) → i < n → bit_at (bit_xor a b) i ≡ 0) → Agree x y (64 * index + n)
  agree_farther n few same = record {
    each = λ p h. elim (cases_lt p (64 * index)) [
      | inl low ↦ before.each p low
      | inr high ↦
          let col = p - 64 * index in
          let at : 64 * index + col ≡ p = omega (arith, high) in
          let less : col < n = omega (arith, high, h) in
          subst (λ m. x m ≡ y m) at (sym (is_a col (omega (arith, less, few))) ∙ same_bit a b col (same col less) ∙ is_b col (omega (arith, less, few)))
    ];
  }

  pub parts_there : (col : ℕ) → col < 64 → bit_at (bit_xor a b) col ≡ 1 → x (64 * index + col) ≢ y (64 * index + col)
  parts_there col low e same = other_bits a b col e (is_a col low ∙ same ∙ sym (is_b col low))
