-- Which `]` ends a raw value: the first one with an even number of `\` directly before it.
use Rattle.sgf_properties.proofs.Common.{◌≡◌, ◌≢◌, ℕ, zero, suc, ◌+◌, ◌-◌, ◌*◌, ◌/◌, ◌%◌, ◌<◌, ◌≤◌, ◌⊎◌, inl, inr, List, length, get_or, drop, slice_range, Option, Some, None, MatchOption, subst, arith, rules, cases_eq, common_steps, AreOrdinary, SpellsValue, IsValueEnd, IsUnended, in_units, in_escape, IsValue, HasNoBracket, IsNextBracket, AreBackslashesBefore, AreEscapes, SpellsNoValue, drop-length}
use Rattle.sgf_properties.proofs.ValueEnds.{other-ordinary}
use Rattle.sgf_properties.proofs.ValueSpelled.{spelled-none, spelled-ordinary, spelled-escape, value-unended, none-cut}

-- whole units of a value stand from `at` to `end`
pub record AreValueUnits (t : List ℕ) (at end : ℕ) : Type 0 where
  pub rises : at ≤ end
  pub spelled : SpellsValue t at end

-- and after these a `\` as the last byte before `end`
record AreCutUnits (t : List ℕ) (at start end : ℕ) : Type 0 where
  last : ℕ
  rises : start ≤ last
  next : last + 1 ≡ end
  escape : get_or t last 0 ≡ 92
  before : AreValueUnits t at last

module _ (t : List ℕ) (at : ℕ) where
  pub no-units : AreValueUnits t at at
  no-units = record { rises = omega arith; spelled = spelled-none t at }

  pub ordinary-units : (a b : ℕ) → AreValueUnits t at a → AreOrdinary t a b → AreValueUnits t at b
  ordinary-units a b units ordinary = grind (arith, common_steps, spelled-ordinary)

  one-ordinary : (a : ℕ) → a < length t → get_or t a 0 ≢ 93 → get_or t a 0 ≢ 92 → AreValueUnits t at a → AreValueUnits t at (a + 1)
  one-ordinary a lt x y units = grind (arith, common_steps, ordinary-units, other-ordinary)

  escape-units : (a : ℕ) → a + 1 < length t → get_or t a 0 ≡ 92 → AreValueUnits t at a → AreValueUnits t at (a + 2)
  escape-units a lt e units = grind (arith, common_steps, spelled-escape)

  -- where no `]` stands, units go on up to the end, or a `\` is left there
  units-to : (n start end : ℕ) → start + n ≡ end → end ≤ length t → HasNoBracket t start end → AreValueUnits t at start
      → AreValueUnits t at end ⊎ AreCutUnits t at start end
  units-to zero start end e within none units = let same : start ≡ end = omega arith in inl (subst (AreValueUnits t at) same units)
  units-to (suc zero) start end e within none units = grind (arith, common_steps, cases_eq, one-ordinary)
  units-to (suc (suc n)) start end e within none units =
      elim (cases_eq (get_or t start 0) 92) [
        | inl is ↦ from-further (start + 2) (omega arith) (units-to n (start + 2) end (omega arith) within (λ i low high. none i (omega arith) high) (escape-units start (omega arith) is units))
        | inr other ↦ from-further (start + 1) (omega arith)
            (units-to (suc n) (start + 1) end (omega arith) within (λ i low high. none i (omega arith) high) (one-ordinary start (omega arith) (none start (omega arith) (omega arith)) other units))
      ]
    where
      from-further : (further : ℕ) → start ≤ further → AreValueUnits t at end ⊎ AreCutUnits t at further end → AreValueUnits t at end ⊎ AreCutUnits t at start end
      from-further further le (inl all) = inl all
      from-further further le (inr cut) = inr (record { last = cut.last; rises = omega (arith, cut.rises); next = cut.next; escape = cut.escape; before = cut.before })

  -- escapes side by side
  side-by-side : (k a : ℕ) → a + 2 * k ≤ length t → ((i : ℕ) → i < k → get_or t (a + 2 * i) 0 ≡ 92) → AreValueUnits t at a → AreValueUnits t at (a + 2 * k)
  side-by-side zero a within escapes units = let e : a ≡ a + 2 * 0 = omega arith in subst (AreValueUnits t at) e units
  side-by-side (suc k) a within escapes units =
      let e : a + 2 * k + 2 ≡ a + 2 * suc k = omega arith in
      subst (AreValueUnits t at) e (escape-units (a + 2 * k) (omega arith) (escapes k (omega arith)) (side-by-side k a (omega arith) (λ i lt. escapes i (omega arith)) units))

  pub escapes-units : (a b : ℕ) → AreEscapes t a b → AreValueUnits t at a → AreValueUnits t at b
  escapes-units a b escapes units = grind (arith, common_steps, side-by-side)

  module _ (start first end : ℕ) (within : end ≤ length t) (none : HasNoBracket t start end) (run : AreBackslashesBefore t start first end) (units : AreValueUnits t at start) where
    -- the run of `\` begins between units
    run-units : AreValueUnits t at first
    run-units =
        let low : start ≤ first = run.low in
        let high : first ≤ end = run.rises in
        grind (arith, common_steps, units-to (first - start) start first (omega arith) (omega arith) (λ i least lt. none i least (omega arith)) units)

    -- and its escapes are units
    run-pairs : (k : ℕ) → first + 2 * k ≤ end → AreValueUnits t at (first + 2 * k)
    run-pairs k le = side-by-side k first (omega arith) (λ i lt. run.escapes (first + 2 * i) (omega arith) (omega arith)) run-units

    pub even-units : (end - first) % 2 ≡ 0 → AreValueUnits t at end
    even-units even =
        let e : first + 2 * ((end - first) / 2) ≡ end = omega arith in
        subst (AreValueUnits t at) e (run-pairs ((end - first) / 2) (omega arith))

    pub odd-units : end < length t → (end - first) % 2 ≢ 0 → AreValueUnits t at (end + 1)
    odd-units inside odd =
        let last : ℕ = first + 2 * ((end - first) / 2) in
        let e : first + 2 * ((end - first) / 2) + 1 ≡ end = omega arith in
        let f : last + 2 ≡ end + 1 = omega arith in
        subst (AreValueUnits t at) f (escape-units last (omega arith) (run.escapes last (omega arith) (omega arith)) (run-pairs ((end - first) / 2) (omega arith)))

  -- the same where none stands there
  pub bare-units : (end : ℕ) → IsNextBracket t at end → (at < end → get_or t (end - 1) 0 ≢ 92) → AreValueUnits t at end
  bare-units end next bare = grind (arith, common_steps, even-units, no-units)

  -- a `]` after whole units ends the value
  pub units-ended : (end : ℕ) → AreValueUnits t at end → end < length t → get_or t end 0 ≡ 93 → IsValueEnd t at end
  units-ended end units within bracket = grind (arith, common_steps)

  -- with no further `]` the value is unended
  pub endless : (start : ℕ) → start ≤ length t → HasNoBracket t start (length t) → AreValueUnits t at start → IsUnended t at
  endless start le none units =
      elim (units-to (length t - start) start (length t) (omega arith) (omega arith) none units) [
        | inl all ↦ in_units all.spelled
        | inr cut ↦ in_escape cut.last cut.before.rises cut.next cut.escape cut.before.spelled
      ]

-- an unended value is none
unended-none : (t : List ℕ) (at : ℕ) → IsUnended t at → SpellsNoValue t at
unended-none t at (in_units all) = λ v r. value-unended (subst (IsValue (slice_range t at (length t)) (drop at t)) (drop-length t) all)
unended-none t at (in_escape last low next escape before) = none-cut t at last next escape before

pub unended_none : (t : List ℕ) (at : ℕ) (found : Option ℕ) → MatchOption found (IsUnended t at) (IsValueEnd t at) → MatchOption found (SpellsNoValue t at) (IsValueEnd t at)
unended_none t at None unended = unended-none t at unended
unended_none t at (Some end) is = is
