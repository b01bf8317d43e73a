-- The bytes of two moves, all compared at once with the least one that may stand there.
use Rattle.sgf_outline.proofs.Common.{◌≡◌, ◌∙◌, ℕ, ◌+◌, ◌/◌, ◌%◌, ◌^◌, ◌<◌, ◌≤◌, List, [], ◌∷◌, length, get_or, refl, ap, arith, le-leb, and_from, cases_lt, common_steps, IsMove, IsMoveNode, above}
use Rattle.sgf_properties.proofs.PlacedBytes
use Rattle.sgf_properties.proofs.PointBytes.{other-than, in-place}

-- a move, by how far its bytes are above the least ones
move-from : (t : List ℕ) (at : ℕ) → ((i : ℕ) → get_or t i 0 < 256) → at + 4 < length t → above (get_or t at 0) 65 ≤ 25 → above (get_or t (at + 1) 0) 91 ≤ 0
    → above (get_or t (at + 2) 0) 94 ≤ 253 → above (get_or t (at + 3) 0) 94 ≤ 253 → above (get_or t (at + 4) 0) 93 ≤ 0 → IsMove t at
move-from t at fits within first second third fourth fifth = grind (arith, common_steps, and_from, le-leb, cases_lt, other-than)

-- the bytes of two nodes that begin with a move, and the byte after them
module _ (t : List ℕ) (at : ℕ) (room : at + 16 ≤ length t) (fits : (i : ℕ) → get_or t i 0 < 256) where
  abbrev two_least : List ℕ
  two_least = 59 ∷ 65 ∷ 91 ∷ 94 ∷ 94 ∷ 93 ∷ 59 ∷ 65 ∷ 91 ∷ 94 ∷ 94 ∷ 93 ∷ 33 ∷ 0 ∷ 0 ∷ 0 ∷ []

  abbrev two_most : List ℕ
  two_most = 0 ∷ 25 ∷ 0 ∷ 253 ∷ 253 ∷ 0 ∷ 0 ∷ 25 ∷ 0 ∷ 253 ∷ 253 ∷ 0 ∷ 31 ∷ 255 ∷ 255 ∷ 255 ∷ []

  abbrev two_bits : ℕ
  two_bits = PlacedBytes.bits two_least two_most refl refl t at room

  there : (i j : ℕ) → j ≡ at + i → i < 16 → two_bits / 2 ^ i % 2 ≡ 1 → above (get_or t j 0) (get_or two_least i 0) ≤ get_or two_most i 0
  there = in-place two_least two_most refl refl t at room

  pub first-node : two_bits % 64 ≡ 63 → IsMoveNode t at
  first-node e =
      let semicolon : above (get_or t at 0) 59 ≤ 0 = there 0 at (omega arith) (omega arith) (omega (arith, e)) in
      record {
        begins = omega (arith, semicolon, fits at);
        move = move-from t (at + 1) fits (omega arith) (there 1 (at + 1) refl (omega arith) (omega (arith, e))) (there 2 (at + 1 + 1) (omega arith) (omega arith) (omega (arith, e)))
            (there 3 (at + 1 + 2) (omega arith) (omega arith) (omega (arith, e))) (there 4 (at + 1 + 3) (omega arith) (omega arith) (omega (arith, e))) (there 5 (at + 1 + 4) (omega arith) (omega arith) (omega (arith, e)));
      }

  module _ (e : two_bits ≡ 65535) where
    all-there : (i j : ℕ) → j ≡ at + i → i < 16 → 65535 / 2 ^ i % 2 ≡ 1 → above (get_or t j 0) (get_or two_least i 0) ≤ get_or two_most i 0
    all-there i j is lt set = there i j is lt (ap (λ n. n / 2 ^ i % 2) e ∙ set)

    pub second-node : IsMoveNode t (at + 6)
    second-node =
        let semicolon : above (get_or t (at + 6) 0) 59 ≤ 0 = all-there 6 (at + 6) refl (omega arith) refl in
        record {
          begins = omega (arith, semicolon, fits (at + 6));
          move = move-from t (at + 6 + 1) fits (omega arith) (all-there 7 (at + 6 + 1) (omega arith) (omega arith) refl) (all-there 8 (at + 6 + 1 + 1) (omega arith) (omega arith) refl)
              (all-there 9 (at + 6 + 1 + 2) (omega arith) (omega arith) refl) (all-there 10 (at + 6 + 1 + 3) (omega arith) (omega arith) refl) (all-there 11 (at + 6 + 1 + 4) (omega arith) (omega arith) refl);
        }
