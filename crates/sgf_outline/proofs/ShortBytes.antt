-- The bytes of a property of two capitals and one value, all compared at once.
use Rattle.sgf_outline.proofs.Common.{◌≡◌, ◌≢◌, ℕ, zero, suc, ◌+◌, ◌-◌, ◌/◌, ◌%◌, ◌^◌, ◌<◌, ◌≤◌, Bool, false, IsTrue, List, [], ◌∷◌, length, get_or, inl, inr, refl, sym, subst, ◌∙◌, arith, le-leb, and_from, cases_lt, or_left, common_steps, get_or-append_right, is_letter, IsSpan, IsValueEnd, is_ordinary, IsShortProperty, is_upper, above, other-ordinary}
use Rattle.std.proofs.lemmas.Simd.{get_or-replicate}
use Rattle.std.specs.Int.Count.{count_trailing_zeros}
use Rattle.sgf_properties.proofs.PlacedBytes
use Rattle.sgf_properties.proofs.ValueUnits.{no-units, ordinary-units, units-ended}

-- the first byte of each place that stops a property, and how many further ones do
abbrev least : List ℕ
least = 91 ∷ 91 ∷ 92 ∷ 92 ∷ 92 ∷ 92 ∷ 92 ∷ 92 ∷ 92 ∷ 92 ∷ 92 ∷ 92 ∷ 92 ∷ 92 ∷ 92 ∷ 92 ∷ []

abbrev most : List ℕ
most = 229 ∷ 229 ∷ 254 ∷ 1 ∷ 1 ∷ 1 ∷ 1 ∷ 1 ∷ 1 ∷ 1 ∷ 1 ∷ 1 ∷ 1 ∷ 1 ∷ 1 ∷ 1 ∷ []

capital : (b : ℕ) → b < 256 → 229 < above b 91 → IsTrue (is_upper b)
capital b fits h = grind (arith, common_steps, and_from, le-leb)

ordinary-byte : (b : ℕ) → b < 256 → 1 < above b 92 → IsTrue (is_ordinary b)
ordinary-byte b fits h = other-ordinary b (λ e. omega (arith, h)) (λ e. omega (arith, h))

-- from the fourth place on all places are alike
value-place : (i : ℕ) → 3 ≤ i → i < 16 → (get_or least i 0 ≡ 92) × (get_or most i 0 ≡ 1)
value-place i low high = grind (arith, common_steps, get_or-append_right, get_or-replicate)

low-clear : (n i : ℕ) → n % 8 ≡ 0 → i < 3 → n / 2 ^ i % 2 ≡ 0
low-clear n zero e lt = omega arith
low-clear n (suc zero) e lt = omega arith
low-clear n (suc (suc zero)) e lt = omega arith
low-clear n (suc (suc (suc i))) e lt = absurd (omega arith)

module _ (t : List ℕ) (at : ℕ) (room : at + 16 ≤ length t) (fits : (i : ℕ) → get_or t i 0 < 256) where
  abbrev pub bits : ℕ
  bits = PlacedBytes.bits least most refl refl t at room

  passes : (i : ℕ) → i < 16 → bits / 2 ^ i % 2 ≡ 0 → get_or most i 0 < above (get_or t (at + i) 0) (get_or least i 0)
  passes = PlacedBytes.out-of-place least most refl refl t at room

  abbrev stop : ℕ
  stop = count_trailing_zeros 64 bits

  pub stops-inside : bits ≢ 0 → at + 16 < length t → (at + stop < length t) × (at + stop + 1 < length t)
  stops-inside some more = let lowest = PlacedBytes.first-in-place least most refl refl t at room (omega (arith, some)) in (omega (arith, lowest.short), omega (arith, lowest.short))

  pub stops-short : (low : bits % 8 ≡ 0) → bits ≢ 0 → get_or t (at + stop) 0 ≡ 93 → IsShortProperty t at (at + stop)
  stops-short low some bracket =
      let lowest = PlacedBytes.first-in-place least most refl refl t at room (omega (arith, some)) in
      let first : 229 < above (get_or t (at + 0) 0) 91 = passes 0 (omega arith) (low-clear bits 0 low (omega arith)) in
      let here : at + 0 ≡ at = omega arith in
      let short : stop < 16 = lowest.short in
      let past : 3 ≤ stop =
      elim (cases_lt stop 3) [
        | inl lt ↦ let both : ◌≡◌ {A = ℕ} 1 0 = sym lowest.set ∙ low-clear bits stop low lt in absurd (omega arith)
        | inr le ↦ le
      ] in
      record {
        first = capital (get_or t at 0) (fits at) (subst (λ i. 229 < above (get_or t i 0) 91) here first);
        second = capital (get_or t (at + 1) 0) (fits (at + 1)) (passes 1 (omega arith) (low-clear bits 1 low (omega arith)));
        bracket = let third : 254 < above (get_or t (at + 2) 0) 92 = passes 2 (omega arith) (low-clear bits 2 low (omega arith)) in omega (arith, third, fits (at + 2));
        ordinary = record {
          rises = omega arith;
          within = omega arith;
          passing = λ i from to.
              let k : ℕ = i - at in
              let same : at + k ≡ i = omega arith in
              let place = value-place k (omega arith) (omega arith) in
              grind (arith, common_steps, passes, ordinary-byte);
        };
        within = omega arith;
        end = bracket;
      }

-- the same property
module _ (t : List ℕ) (at close : ℕ) (is : IsShortProperty t at close) where
  pub two-name : (test : ℕ → Bool) → IsTrue (test (get_or t at 0)) → IsTrue (test (get_or t (at + 1) 0)) → test 91 ≡ false → IsSpan test t at (at + 2)
  two-name test first second other = grind (arith, common_steps, cases_lt)

  pub two-letters : IsSpan is_letter t at (at + 2)
  two-letters = grind (arith, common_steps, two-name, or_left)

  pub two-value : IsValueEnd t (at + 2 + 1) close
  two-value =
      let three : at + 2 + 1 ≡ at + 3 = omega arith in
      rw three (units-ended t (at + 3) close (ordinary-units t (at + 3) (at + 3) close (no-units t (at + 3)) is.ordinary) is.within is.end)
