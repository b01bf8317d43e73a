-- Raw values, by the grammar: how one is put together from its units, and that it has one end.
use Rattle.sgf_properties.proofs.Common.{◌≡◌, ◌≢◌, ℕ, zero, suc, ◌+◌, ◌-◌, ◌<◌, ◌≤◌, List, [], ◌∷◌, ◌++◌, length, get_or, take, drop, slice_range, refl, sym, ap, subst, ◌∙◌, append-nil, arith, length-drop, get_or-drop, drop-drop, common_steps, AreOrdinary, SpellsValue, IsValue, no_unit, ordinary, escaped, SpellsNoValue}
use Rattle.sgf_properties.proofs.ValueEnds.{drop-span, span-join, ordinary-other}

-- units after units
value-join : {u v s m r : List ℕ} → IsValue u s m → IsValue v m r → IsValue (u ++ v) s r
value-join no_unit k = k
value-join (ordinary x y h) k = ordinary x y (value-join h k)
value-join (escaped h) k = escaped (value-join h k)

-- ordinary bytes are units
ordinary-units : (n : ℕ) (s : List ℕ) → n ≤ length s → ((i : ℕ) → i < n → (get_or s i 0 ≢ 93) × (get_or s i 0 ≢ 92)) → IsValue (take n s) s (drop n s)
ordinary-units zero s le h = no_unit
ordinary-units (suc n) [] le h = absurd (omega arith)
ordinary-units (suc n) (b ∷ s) le h =
    let here = h 0 (omega arith) in ordinary here.0 here.1 (ordinary-units n s (omega arith) (λ i lt. h (suc i) (omega arith)))

-- and so is a `\` with the byte after it
escape-unit : (s : List ℕ) → 2 ≤ length s → get_or s 0 0 ≡ 92 → IsValue (take 2 s) s (drop 2 s)
escape-unit [] le e = absurd (omega arith)
escape-unit (a ∷ []) le e = absurd (omega arith)
escape-unit (a ∷ b ∷ s) le e = subst (λ c. IsValue (c ∷ b ∷ []) (c ∷ b ∷ s) s) (sym e) (escaped no_unit)

module _ (t : List ℕ) (at : ℕ) where
  pub spelled-none : SpellsValue t at at
  spelled-none = let e : at - at ≡ 0 = omega arith in rw e no_unit

  spelled-more : (a b : ℕ) → at ≤ a → a ≤ b → SpellsValue t at a → SpellsValue t a b → SpellsValue t at b
  spelled-more a b low le h k = rw (← span-join t at a b low le) (value-join h k)

  pub spelled-ordinary : (a b : ℕ) → at ≤ a → SpellsValue t at a → AreOrdinary t a b → SpellsValue t at b
  spelled-ordinary a b low h run =
      let le : a ≤ b = run.rises in
      let units : IsValue (take (b - a) (drop a t)) (drop a t) (drop (b - a) (drop a t)) =
      ordinary-units (b - a) (drop a t) (omega (arith, run.within, length-drop a t))
      (λ i lt.
      let same : get_or (drop a t) i 0 ≡ get_or t (a + i) 0 = get_or-drop a t i 0 in
      subst (λ c. (c ≢ 93) × (c ≢ 92)) (sym same) (ordinary-other (get_or t (a + i) 0) (run.passing (a + i) (omega arith) (omega arith)))) in
      spelled-more a b low le h (subst (IsValue (slice_range t a b) (drop a t)) (drop-span t a b le) units)

  pub spelled-escape : (a : ℕ) → at ≤ a → a + 1 < length t → get_or t a 0 ≡ 92 → SpellsValue t at a → SpellsValue t at (a + 2)
  spelled-escape a low lt e h =
      let two : a + 2 - a ≡ 2 = omega arith in
      let first : get_or (drop a t) 0 0 ≡ 92 = get_or-drop a t 0 0 ∙ (let z : a + 0 ≡ a = omega arith in rw z e) in
      let unit : IsValue (take 2 (drop a t)) (drop a t) (drop 2 (drop a t)) = escape-unit (drop a t) (omega (arith, length-drop a t)) first in
      spelled-more a (a + 2) low (omega arith) h
      (rw two (subst (IsValue (take 2 (drop a t)) (drop a t)) (drop-drop 2 a t) unit))

-- a value goes on from each of its fronts
value-rest : {u v s m r : List ℕ} → IsValue u s m → IsValue v s (93 ∷ r) → (w : List ℕ) × IsValue w m (93 ∷ r) × (v ≡ u ++ w)
value-rest {v = v} no_unit k = (v, k, refl)
value-rest (ordinary x y h) no_unit = absurd (x refl)
value-rest (ordinary {b} x y h) (ordinary z w k) = let (v, rest, is) = value-rest h k in (v, rest, ap (λ c. b ∷ c) is)
value-rest (ordinary x y h) (escaped k) = absurd (y refl)
value-rest (escaped h) (ordinary z w k) = absurd (w refl)
value-rest (escaped {b} h) (escaped k) = let (v, rest, is) = value-rest h k in (v, rest, ap (λ c. 92 ∷ b ∷ c) is)

value-end : {w q r : List ℕ} → IsValue w (93 ∷ q) (93 ∷ r) → (w ≡ []) × (q ≡ r)
value-end no_unit = (refl, refl)
value-end (ordinary x y k) = absurd (x refl)

-- it has one end
pub value-same : {u v s q r : List ℕ} → IsValue u s (93 ∷ q) → IsValue v s (93 ∷ r) → (u ≡ v) × (q ≡ r)
value-same {u} h k =
    let (w, rest, is) = value-rest h k in
    let (none, same) = value-end rest in (sym (is ∙ ap (λ x. u ++ x) none ∙ append-nil u), same)

-- and none where the text ends in it, or after a `\`
no-end : {w r : List ℕ} → ¬ IsValue w [] (93 ∷ r)
no-end k = elim k [ ]

no-cut : {w r : List ℕ} → ¬ IsValue w (92 ∷ []) (93 ∷ r)
no-cut (ordinary x y k) = y refl

pub value-unended : {u v s r : List ℕ} → IsValue u s [] → ¬ IsValue v s (93 ∷ r)
value-unended h k = no-end (value-rest h k).1

value-cut : {u v s r : List ℕ} → IsValue u s (92 ∷ []) → ¬ IsValue v s (93 ∷ r)
value-cut h k = no-cut (value-rest h k).1

pub none-cut : (t : List ℕ) (at a : ℕ) → a + 1 ≡ length t → get_or t a 0 ≡ 92 → SpellsValue t at a → SpellsNoValue t at
none-cut t at a e f h v r k = grind (arith, common_steps, value-cut)
