-- Sixteen bytes that are tested at once, and the mask of those that pass.
use Rattle.sgf_properties.proofs.Common.{◌≡◌, ℕ, ◌+◌, ◌<◌, ◌≤◌, Bool, true, false, cond, eqb, List, map, length, get_or, inl, inr, ap, ◌∙◌, arith, w64, rules, count_trailing_zeros, chunk, mask_l, cases_lt, length-map, length-chunk, mask_l-mod, bit_mask_l, trailing_mask_l, first_set_mask_l, run_in_chunk_fails, run_in_chunk_stops, bit_at-trailing_zeros, get_or-eq_default}

module _ (test : ℕ → Bool) (t : List ℕ) (at : ℕ) (room : at + 16 ≤ length t) where
  abbrev bytes : List ℕ
  bytes = chunk at 16 t

  -- a bit for each byte
  abbrev pub bits : ℕ
  bits = mask_l (map test bytes)

  -- the first byte that passes
  pub record IsLowest (r : ℕ) : Type 0 where
    pub short : r < 16
    pub stops : test (get_or t (at + r) 0) ≡ true
    pub before : (i : ℕ) → at ≤ i → i < at + r → test (get_or t i 0) ≡ false

  pub lowest-bit : 0 < bits → IsLowest (count_trailing_zeros 64 bits)
  lowest-bit some =
      let r : ℕ = count_trailing_zeros 64 bits in
      let wide : length (map test bytes) ≡ 16 = length-map bytes test ∙ length-chunk at 16 t room in
      let bit = bit_at-trailing_zeros w64 bits some (omega (arith, mask_l-mod (map test bytes) 64 (omega (arith, wide)))) in
      let counted = trailing_mask_l test 64 bytes (omega (arith, length-chunk at 16 t room)) some in
      let short : r < 16 =
      elim (cases_lt r 16) [
        | inl lt ↦ lt
        | inr past ↦ search (rules, bit_mask_l, get_or-eq_default)
      ] in
      record {
        short = short;
        stops = run_in_chunk_stops test t at 16 r 0 room counted short;
        before = run_in_chunk_fails test t at 16 r 0 room counted;
      }

  below : (b : Bool) (r n : ℕ) → r ≤ 16 → r ≤ n → r ≤ cond b 16 n
  below true r n most low = most
  below false r n most low = low

  -- no byte before the lowest bit passes
  pub before-lowest : (m r i : ℕ) → m ≡ bits → r ≤ 16 → r ≤ count_trailing_zeros 64 m → at ≤ i → i < at + r → test (get_or t i 0) ≡ false
  before-lowest m r i are most low from lt =
      let first : ℕ = cond (eqb m 0) 16 (count_trailing_zeros 64 m) in
      let far : r ≤ first = below (eqb m 0) r (count_trailing_zeros 64 m) most low in
      let counted = ap (λ n. cond (eqb n 0) 16 (count_trailing_zeros 64 n)) are ∙ first_set_mask_l test bytes 16 (length-chunk at 16 t room) (omega arith) in
      run_in_chunk_fails test t at 16 first 0 room counted i from (omega (arith, far, lt))
