-- Values such as `[pd]`, one after the other.
use Rattle.sgf_properties.proofs.Common.{◌≡◌, ℕ, zero, suc, ◌+◌, ◌-◌, ◌*◌, ◌<◌, ◌≤◌, List, [], ◌∷◌, length, drop, slice_range, inl, inr, subst, arith, rules, cases_lt, IsValueEnd, IsPoint, ArePoints, IsBracket, IsPropValue, ArePropValues, no_value, value}
use Rattle.sgf_properties.proofs.Iterating.{first-value}
use Rattle.sgf_properties.proofs.NameEnds.{bracket-here}
use Rattle.sgf_properties.proofs.ValueUnits.{no-units, ordinary-units, units-ended}

module _ (t : List ℕ) where
  -- the first three of four more
  pub points_more : (at end : ℕ) → ArePoints t at end → ArePoints t end (end + 16) → ArePoints t at (end + 12)
  points_more at end before four =
      record { count = before.count + 3; ends = omega (arith, before.ends); each = each }
    where
      each : (i : ℕ) → i < before.count + 3 → IsPoint t (at + 4 * i)
      each i lt =
          elim (cases_lt i before.count) [
            | inl low ↦ before.each i low
            | inr high ↦
                let there : end + 4 * (i - before.count) ≡ at + 4 * i = omega (arith, before.ends) in
                subst (IsPoint t) there (four.each (i - before.count) (omega (arith, four.ends)))
          ]

  -- a fourth one begins after three
  pub fourth_stands : (end : ℕ) → ArePoints t end (end + 16) → end + 16 ≤ length t → IsBracket t (end + 12)
  fourth_stands end four within = search rules

  pub value-end : (at : ℕ) → IsPoint t at → IsValueEnd t (at + 1) (at + 3)
  value-end at point =
      let pair = point.value in
      let same : at + 1 + 2 ≡ at + 3 = omega arith in
      subst (IsValueEnd t (at + 1)) same (units-ended t (at + 1) (at + 1 + 2) (ordinary-units t (at + 1) (at + 1) (at + 1 + 2) (no-units t (at + 1)) pair.ordinary) pair.within pair.bracket)

  -- the first of the values, and those after it
  pub first-point : (at end count : ℕ) → at + 4 * suc count ≡ end → ((i : ℕ) → i < suc count → IsPoint t (at + 4 * i)) → IsPoint t at
  first-point at end count ends each = let same : at + 4 * 0 ≡ at = omega arith in subst (IsPoint t) same (each 0 (omega arith))

  pub later-points : (at count : ℕ) → ((i : ℕ) → i < suc count → IsPoint t (at + 4 * i)) → (i : ℕ) → i < count → IsPoint t (at + 4 + 4 * i)
  later-points at count each i lt = let same : at + 4 * suc i ≡ at + 4 + 4 * i = omega arith in subst (IsPoint t) same (each (suc i) (omega arith))

  -- the values that they spell
  pub points-spelled : (at end : ℕ) → ArePoints t at end → (values : List (List ℕ)) × ArePropValues values (drop at t) (drop end t)
  points-spelled at end points = go points.count at points.ends points.each
    where
      go : (n at : ℕ) → at + 4 * n ≡ end → ((i : ℕ) → i < n → IsPoint t (at + 4 * i)) → (values : List (List ℕ)) × ArePropValues values (drop at t) (drop end t)
      go zero at ends each = let same : at ≡ end = omega arith in ([], subst (λ i. ArePropValues [] (drop at t) (drop i t)) same no_value)
      go (suc n) at ends each =
          let point = first-point at end n ends each in
          let is_end = value-end at point in
          let inside : at < length t = omega (arith, point.value.within) in
          let next : at + 3 + 1 ≡ at + 4 = omega arith in
          let first = first-value t at at (bracket-here t at (record { within = inside; bracket = point.begins })) (at + 3) inside point.begins is_end.within is_end.bracket is_end.spelled in
          let more = go n (at + 4) (omega arith) (later-points at n each) in
          (slice_range t (at + 1) (at + 3) ∷ more.0, value (subst (λ i. IsPropValue (slice_range t (at + 1) (at + 3)) (drop at t) (drop i t)) next first) more.1)
