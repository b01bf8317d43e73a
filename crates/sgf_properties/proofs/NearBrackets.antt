-- The first `]` of sixteen bytes, by the mask of those that are one.
use Rattle.sgf_properties.proofs.Common.{◌≡◌, ◌≢◌, ℕ, ◌+◌, ◌^◌, ◌%◌, ◌≤◌, false, cond, eqb, List, map, replicate, length, get_or, sym, ◌∙◌, arith, w8, rules, eqb-true, eq-eqb, count_trailing_zeros, chunk, zip2, mask_l, top, false≢true, length-chunk, bitmask_splat, none_from_empty_mask, HasNoBracket, IsNextBracket}
use Rattle.sgf_properties.proofs.NearBits

not-bracket : (b : ℕ) → eqb b 93 ≡ false → b ≢ 93
not-bracket b other is = false≢true (sym other ∙ eq-eqb b 93 is)

module _ (t : List ℕ) (at : ℕ) (room : at + 16 ≤ length t) where
  -- a bit for each byte, as the code makes them
  abbrev pub found : ℕ
  found = mask_l (map (top 7) (zip2 (λ a b. cond (eqb a b) 255 0) (chunk at 16 t) (replicate 16 93))) % 2 ^ 64

  abbrev bits : ℕ
  bits = NearBits.bits (λ x. eqb x 93) t at room

  found-bits : found ≡ bits
  found-bits = bitmask_splat w8 eqb (chunk at 16 t) 16 93 (length-chunk at 16 t room) (omega arith)

  pub lowest_found : found ≢ 0 → IsNextBracket t at (at + count_trailing_zeros 64 found)
  lowest_found some =
      let lowest = NearBits.lowest-bit (λ x. eqb x 93) t at room (omega (arith, found-bits, some)) in
      search (rules, found-bits, eqb-true, not-bracket)
