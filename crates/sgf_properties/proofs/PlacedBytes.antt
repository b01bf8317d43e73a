-- Sixteen bytes, all compared at once: bit i tells whether byte i is at most so much above the least one of its place.
use Rattle.sgf_properties.proofs.Common.{◌≡◌, ◌∙◌, ℕ, ◌+◌, ◌-◌, ◌/◌, ◌%◌, ◌^◌, ◌<◌, ◌≤◌, Bool, true, false, cond, List, map, length, get_or, sym, ap, arith, le-leb, leb-true, w8, w64, rules, leb, count_trailing_zeros, chunk, zip2, mask_l, top, cases_lt, false≢true, common_steps, length-chunk, length-zip2, get_or-chunk, get_or-zip2, tops_compared, mask_l-mod, bit_mask_l, get_or-eq_default, bit_at-trailing_zeros}

-- how far a byte is above another, where 0 comes after 255
abbrev pub above : ℕ → ℕ → ℕ
above byte other = (byte + (256 - other)) % 256

is-set : (b : Bool) → ◌≡◌ {A = ℕ} (cond b 1 0) 1 → b ≡ true
is-set b h = search rules

is-clear : (b : Bool) → ◌≡◌ {A = ℕ} (cond b 1 0) 0 → b ≡ false
is-clear b h = search rules

module _ (least most : List ℕ) (wide : length least ≡ 16) (wide' : length most ≡ 16) (t : List ℕ) (at : ℕ) (room : at + 16 ≤ length t) where
  abbrev distances : List ℕ
  distances = zip2 above (chunk at 16 t) least

  abbrev pub bits : ℕ
  bits = mask_l (map (top 7) (zip2 (λ a b. cond (leb a b) 255 0) distances most)) % 2 ^ 64

  long : length distances ≡ 16
  long = length-zip2 above (chunk at 16 t) least (length-chunk at 16 t room ∙ sym wide) ∙ length-chunk at 16 t room

  abbrev lanes : List Bool
  lanes = zip2 leb distances most

  lanes-long : length lanes ≡ 16
  lanes-long = length-zip2 leb distances most (long ∙ sym wide') ∙ long

  bits-lanes : bits ≡ mask_l lanes
  bits-lanes = ap (λ ms. mask_l ms % 2 ^ 64) (tops_compared w8 leb distances most) ∙ mask_l-mod lanes 64 (omega (arith, lanes-long))

  abbrev distance : ℕ → ℕ
  distance i = above (get_or t (at + i) 0) (get_or least i 0)

  lane : (i : ℕ) → i < 16 → get_or lanes i false ≡ leb (distance i) (get_or most i 0)
  lane i lt =
      let byte = get_or-chunk at 16 t i 0 lt in
      let far : get_or distances i 0 ≡ distance i =
      get_or-zip2 above (chunk at 16 t) least i 0 0 0 (omega (arith, lt, length-chunk at 16 t room)) (omega (arith, lt, wide)) ∙ ap (λ b. above b (get_or least i 0)) byte in
      get_or-zip2 leb distances most i 0 0 false (omega (arith, lt, long)) (omega (arith, lt, wide')) ∙ ap (λ d. leb d (get_or most i 0)) far

  bit : (i : ℕ) → bits / 2 ^ i % 2 ≡ cond (get_or lanes i false) 1 0
  bit i = ap (λ n. n / 2 ^ i % 2) bits-lanes ∙ bit_mask_l lanes i

  pub in-place : (i : ℕ) → i < 16 → bits / 2 ^ i % 2 ≡ 1 → distance i ≤ get_or most i 0
  in-place i lt set = leb-true (distance i) (get_or most i 0) (sym (lane i lt) ∙ is-set (get_or lanes i false) (sym (bit i) ∙ set))

  pub out-of-place : (i : ℕ) → i < 16 → bits / 2 ^ i % 2 ≡ 0 → get_or most i 0 < distance i
  out-of-place i lt clear = grind (arith, common_steps, cases_lt, false≢true, lane, is-clear, bit, le-leb)

  -- the first byte that is in place
  pub record IsFirstInPlace (r : ℕ) : Type 0 where
    pub short : r < 16
    pub set : bits / 2 ^ r % 2 ≡ 1
    pub before : (i : ℕ) → i < r → bits / 2 ^ i % 2 ≡ 0

  pub first-in-place : 0 < bits → IsFirstInPlace (count_trailing_zeros 64 bits)
  first-in-place some =
      let zeros = bit_at-trailing_zeros w64 bits some (omega arith) in
      search (rules, cases_lt, bit, get_or-eq_default, lanes-long)
