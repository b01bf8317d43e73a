-- The bytes of four values such as `[pd]`, all compared at once with the least one that may stand there.
use Rattle.sgf_properties.proofs.Common.{◌≡◌, ◌∙◌, ℕ, zero, suc, ◌+◌, ◌*◌, ◌/◌, ◌%◌, ◌^◌, ◌<◌, ◌≤◌, List, [], ◌∷◌, length, get_or, refl, sym, ap, subst, IsTrue, arith, cases_lt, common_steps, is_ordinary, IsPoint, ArePoints}
use Rattle.sgf_properties.proofs.PlacedBytes
use Rattle.sgf_properties.proofs.PlacedBytes.{above}
use Rattle.sgf_properties.proofs.ValueEnds.{other-ordinary}

pub other-than : (b : ℕ) → b < 256 → above b 94 ≤ 253 → IsTrue (is_ordinary b)
other-than b fits h = other-ordinary b (λ e. omega (arith, h)) (λ e. omega (arith, h))

-- a byte that is in place, which stands at `j`
pub in-place : (least most : List ℕ) (wide : length least ≡ 16) (wide' : length most ≡ 16) (t : List ℕ) (at : ℕ) (room : at + 16 ≤ length t) (i j : ℕ) → j ≡ at + i → i < 16
    → PlacedBytes.bits least most wide wide' t at room / 2 ^ i % 2 ≡ 1 → above (get_or t j 0) (get_or least i 0) ≤ get_or most i 0
in-place least most wide wide' t at room i j is lt set =
    subst (λ k. above (get_or t k 0) (get_or least i 0) ≤ get_or most i 0) (sym is) (PlacedBytes.in-place least most wide wide' t at room i lt set)

-- a value, by how far its bytes are above the least ones
point-from : (t : List ℕ) (at : ℕ) → ((i : ℕ) → get_or t i 0 < 256) → at + 3 < length t → above (get_or t at 0) 91 ≤ 0
    → above (get_or t (at + 1) 0) 94 ≤ 253 → above (get_or t (at + 2) 0) 94 ≤ 253 → above (get_or t (at + 3) 0) 93 ≤ 0 → IsPoint t at
point-from t at fits within first second third fourth = grind (arith, common_steps, cases_lt, other-than)

module _ (t : List ℕ) (at : ℕ) (room : at + 16 ≤ length t) (fits : (i : ℕ) → get_or t i 0 < 256) where
  abbrev four_least : List ℕ
  four_least = 91 ∷ 94 ∷ 94 ∷ 93 ∷ 91 ∷ 94 ∷ 94 ∷ 93 ∷ 91 ∷ 94 ∷ 94 ∷ 93 ∷ 91 ∷ 94 ∷ 94 ∷ 93 ∷ []

  abbrev four_most : List ℕ
  four_most = 0 ∷ 253 ∷ 253 ∷ 0 ∷ 0 ∷ 253 ∷ 253 ∷ 0 ∷ 0 ∷ 253 ∷ 253 ∷ 0 ∷ 0 ∷ 253 ∷ 253 ∷ 0 ∷ []

  module _ (e : PlacedBytes.bits four_least four_most refl refl t at room ≡ 65535) where
    there : (i j : ℕ) → j ≡ at + i → i < 16 → 65535 / 2 ^ i % 2 ≡ 1 → above (get_or t j 0) (get_or four_least i 0) ≤ get_or four_most i 0
    there i j is lt set = in-place four_least four_most refl refl t at room i j is lt (ap (λ n. n / 2 ^ i % 2) e ∙ set)

    point : (i : ℕ) → i < 4 → IsPoint t (at + 4 * i)
    point zero lt =
        point-from t (at + 4 * 0) fits (omega arith) (there 0 (at + 4 * 0) (omega arith) (omega arith) refl) (there 1 (at + 4 * 0 + 1) (omega arith) (omega arith) refl)
        (there 2 (at + 4 * 0 + 2) (omega arith) (omega arith) refl) (there 3 (at + 4 * 0 + 3) (omega arith) (omega arith) refl)
    point (suc zero) lt =
        point-from t (at + 4 * 1) fits (omega arith) (there 4 (at + 4 * 1) (omega arith) (omega arith) refl) (there 5 (at + 4 * 1 + 1) (omega arith) (omega arith) refl)
        (there 6 (at + 4 * 1 + 2) (omega arith) (omega arith) refl) (there 7 (at + 4 * 1 + 3) (omega arith) (omega arith) refl)
    point (suc (suc zero)) lt =
        point-from t (at + 4 * 2) fits (omega arith) (there 8 (at + 4 * 2) (omega arith) (omega arith) refl) (there 9 (at + 4 * 2 + 1) (omega arith) (omega arith) refl)
        (there 10 (at + 4 * 2 + 2) (omega arith) (omega arith) refl) (there 11 (at + 4 * 2 + 3) (omega arith) (omega arith) refl)
    point (suc (suc (suc zero))) lt =
        point-from t (at + 4 * 3) fits (omega arith) (there 12 (at + 4 * 3) (omega arith) (omega arith) refl) (there 13 (at + 4 * 3 + 1) (omega arith) (omega arith) refl)
        (there 14 (at + 4 * 3 + 2) (omega arith) (omega arith) refl) (there 15 (at + 4 * 3 + 3) (omega arith) (omega arith) refl)
    point (suc (suc (suc (suc i)))) lt = absurd (omega arith)

    pub four-points : ArePoints t at (at + 16)
    four-points = record { count = 4; ends = refl; each = point }
