-- A step forward over the properties in front of a text, or over the values.
use Rattle.sgf_properties.proofs.Common.{rules, ◌≡◌, ◌≢◌, ℕ, zero, suc, ◌+◌, ◌-◌, ◌<◌, ◌≤◌, Bool, true, false, IsTrue, List, [], ◌∷◌, ◌++◌, length, get_or, take, drop, slice_range, filter, refl, sym, ap, subst, ◌∙◌, arith, add-one, get_or-drop, length-drop, drop-cons, cases_lt, false≢true, common_steps, drop_all, is_letter, left_after, front, values_in, property_from, name_in, properties_in, NoPropertyFollows, AreValuesIn, ArePropertiesIn, IsSpan, SpellsValue, Property, IsValue, is_white_space, is_upper, WhiteSpace, no_white_space, IsPropValue, prop_value, ArePropValues, no_value, value, IsProperty, property, AreProperties, no_property, properties, IsNoPropValue, IsPastValues, SpellsNoValue}
use Rattle.sgf_properties.proofs.Classes.{upper-not_white_space}
use Rattle.sgf_properties.proofs.ValueEnds.{drop-span}
use Rattle.sgf_properties.proofs.FrontSpelled.{white-same, white-none, white-join, white-past, prop-same, ends-value, past-same, white-left, values-in, ends-values, property-is, properties-in, count-values, count-properties}

module _ (test : ℕ → Bool) where
  run-tail : (b : ℕ) (s : List ℕ) (k : ℕ) → IsSpan test (b ∷ s) 0 (suc k) → IsSpan test s 0 k
  run-tail b s k run =
      record {
        rises = omega arith;
        within = omega (arith, run.within);
        passing = λ i low lt. run.passing (suc i) (omega arith) (omega arith);
        stops = λ lt. run.stops (omega arith);
      }

  -- a run by offsets is the front that passes the test
  pub run-front : (s : List ℕ) (k : ℕ) → IsSpan test s 0 k → (front test s ≡ take k s) × (left_after test s ≡ drop k s)
  unfolding front left_after
  run-front [] zero run = (refl, refl)
  run-front [] (suc k) run = absurd (omega (arith, run.within))
  run-front (b ∷ s) zero run = (rw (run.stops (omega arith)), rw (run.stops (omega arith)))
  run-front (b ∷ s) (suc k) run =
      let here : test b ≡ true = run.passing 0 (omega arith) (omega arith) in
      search (rules, run-tail, (run-front s k (run-tail b s k run)))

  -- a run further on
  pub run-drop : (s : List ℕ) (k e : ℕ) → IsSpan test s k e → IsSpan test (drop k s) 0 (e - k)
  run-drop s k e run = grind (arith, common_steps, length-drop, get_or-drop)

-- the byte at an offset, and what is after it
pub byte-at : (s : List ℕ) (k : ℕ) → k < length s → drop k s ≡ get_or s k 0 ∷ drop (k + 1) s
byte-at s k lt = rw (add-one, drop-cons s k 0)

-- properties in front stand after white space that is passed over
properties-past : {ps : List Property} {r s m : List ℕ} → AreProperties ps r m → WhiteSpace r s → (n : List ℕ) × AreProperties ps s n × WhiteSpace m n
properties-past {s = s} no_property w = (s, no_property, w)
properties-past {m = m} (properties (property {b} v h l x vs) are) w =
    (m, properties (property (white-past w v (upper-not_white_space b h)) h l x vs) are, no_white_space)

pub held-past : {r s : List ℕ} (held : ArePropertiesIn r) → WhiteSpace r s → (properties_in r ≡ properties_in s) × (after : ArePropertiesIn s) × WhiteSpace held.rest after.rest
held-past held w =
    let past = properties-past held.spelled w in
    let ends : NoPropertyFollows past.0 = λ b u v. held.ends b u (white-join past.2 v) in (
      properties-in held.spelled held.ends ∙ sym (properties-in past.1 ends),
      record { properties = held.properties; rest = past.0; spelled = past.1; ends = ends },
      past.2,
    )

module _ (s : List ℕ) (k : ℕ) (run : IsSpan is_white_space s 0 k) where
  white-run : WhiteSpace s (drop k s)
  white-run = subst (WhiteSpace s) (run-front is_white_space s k run).1 (white-left s)

  pub white-to : k < length s → WhiteSpace s (get_or s k 0 ∷ drop (k + 1) s)
  white-to lt = subst (WhiteSpace s) (byte-at s k lt) white-run

  pub white-all : length s ≤ k → WhiteSpace s []
  white-all le = subst (WhiteSpace s) (drop_all k s le) white-run

  -- no property there
  pub no-property : ArePropertiesIn s → (k < length s → is_upper (get_or s k 0) ≡ false) → properties_in s ≡ []
  no-property held other = none held.properties held.rest held.spelled held.ends
    where
      none : (ps : List Property) (r : List ℕ) → AreProperties ps s r → NoPropertyFollows r → properties_in s ≡ []
      none [] r are ends = properties-in are ends
      none (p ∷ ps) r (properties (property {b} {t = t} w h l v vs) are) ends = grind (arith, common_steps, cases_lt, white-same, white-to, upper-not_white_space, false≢true, white-none, white-all)

  -- a property there, whose identifier ends at `end`, and whose values r is left after
  record IsPropertyAt (end : ℕ) (r : List ℕ) : Type 0 where
    pub held : AreValuesIn (drop end s)
    pub some : 0 < length held.values
    pub left : ArePropertiesIn r
    pub is : properties_in s ≡ property_from (name_in (slice_range s k end)) (values_in (drop end s)) ∷ properties_in r
    pub one : Property
    pub spelled : IsProperty one s r

  property-at : (end : ℕ) (r : List ℕ) → ArePropertiesIn s → k < length s → IsTrue (is_upper (get_or s k 0)) → IsSpan is_letter s k end → IsPastValues (drop end s) r
      → IsPropertyAt end r
  property-at end r held lt capital letters past = next held.properties held.rest held.spelled held.ends
    where
      next : (ps : List Property) (q : List ℕ) → AreProperties ps s q → NoPropertyFollows q → IsPropertyAt end r
      next [] q no_property ends = grind (arith, common_steps, false≢true, white-to)
      next (p ∷ ps) q (properties {t = m} (property {b} {name} {v} {t = t} {u} {vs = vs} w h l first more) are) ends =
          let same = white-same (white-to lt) w (run.stops lt) (upper-not_white_space b h) in
          let here : drop k s ≡ b ∷ t = byte-at s k lt ∙ ap (λ c. c ∷ drop (k + 1) s) same.0 ∙ ap (λ x. b ∷ x) same.1 in
          let identifier = run-front is_letter (drop k s) (end - k) (run-drop is_letter s k end letters) in
          let parts = property-is {b = b} h l first more (ends-values are ends) in
          let values_at : drop end s ≡ u = sym (drop-span s k end letters.rises) ∙ sym identifier.1 ∙ ap (left_after is_letter) here ∙ parts.0 in
          let name_is : name_in (slice_range s k end) ≡ b ∷ name =
          ap (filter is_upper) (sym identifier.0 ∙ ap (front is_letter) here) ∙ parts.1 in
          let all : ArePropValues (v ∷ vs) (drop end s) m = subst (λ x. ArePropValues (v ∷ vs) x m) (sym values_at) (value first more) in
          let rest : m ≡ r = past-same all (ends-values are ends) past.spelled past.none_left in
          let left : AreProperties ps r q = subst (λ x. AreProperties ps x q) rest are in
          let p_is : property_from (name_in (slice_range s k end)) (values_in (drop end s)) ≡ record { name = b ∷ name; first = v; more = vs } =
          ap (λ n. property_from n (values_in (drop end s))) name_is ∙ ap (property_from (b ∷ name)) (ap values_in values_at ∙ parts.2) in
          record {
            held = record { values = v ∷ vs; rest = m; spelled = all; ends = ends-values are ends };
            some = omega arith;
            left = record { properties = ps; rest = q; spelled = left; ends = ends };
            is =
                properties-in (properties (property w h l first more) are) ends
                ∙ ap (λ x. x ∷ ps) (sym p_is)
                ∙ ap (λ xs. property_from (name_in (slice_range s k end)) (values_in (drop end s)) ∷ xs) (sym (properties-in left ends));
            one = record { name = b ∷ name; first = v; more = vs };
            spelled = subst (λ x. IsProperty (record { name = b ∷ name; first = v; more = vs }) s x) rest (property w h l first more);
          }

-- a value further on, after white space from one offset to another
module _ (t : List ℕ) (from k : ℕ) (run : IsSpan is_white_space t from k) where
  pub white-between : WhiteSpace (drop from t) (drop k t)
  white-between = subst (WhiteSpace (drop from t)) (drop-span t from k run.rises) (white-run (drop from t) (k - from) (run-drop is_white_space t from k run))

  pub white-up-to : k < length t → WhiteSpace (drop from t) (get_or t k 0 ∷ drop (k + 1) t)
  white-up-to lt = subst (WhiteSpace (drop from t)) (byte-at t k lt) white-between

  -- no `[` there
  pub no-bracket : (k < length t → get_or t k 0 ≢ 91) → IsNoPropValue (drop from t)
  no-bracket other v r (prop_value {t = u} w h) = grind (arith, common_steps, cases_lt, white-same, white-up-to, white-none, drop_all, white-between)

  pub no-end : k < length t → get_or t k 0 ≡ 91 → SpellsNoValue t (k + 1) → IsNoPropValue (drop from t)
  no-end lt e none v r (prop_value {t = u} w h) = grind (arith, common_steps, white-same, white-up-to)

  pub first-value : (end : ℕ) → k < length t → get_or t k 0 ≡ 91 → end < length t → get_or t end 0 ≡ 93 → SpellsValue t (k + 1) end
      → IsPropValue (slice_range t (k + 1) end) (drop from t) (drop (end + 1) t)
  first-value end lt e inside close spelled =
      grind (arith, common_steps, prop_value, white-up-to, byte-at)

-- values after others
pub values-joined : {us vs : List (List ℕ)} {s m r : List ℕ} → ArePropValues us s m → ArePropValues vs m r → ArePropValues (us ++ vs) s r
values-joined no_value more = more
values-joined (value u us) more = value u (values-joined us more)

pub no-value : {s : List ℕ} → AreValuesIn s → IsNoPropValue s → values_in s ≡ []
no-value {s} held none = grind (arith, common_steps, values-in)

pub next-value : {v s r : List ℕ} → AreValuesIn s → IsPropValue v s r → (values_in s ≡ v ∷ values_in r) × AreValuesIn r
next-value {v} {s} {r} held h = search (rules, ends-value, prop-same, values-in)

-- the first property of a text: its identifier stands between two offsets, v is its first value, its further ones stand in m, and
-- r is left after it
pub record IsNextProperty (s : List ℕ) (k end : ℕ) (v m r : List ℕ) : Type 0 where
  pub more : AreValuesIn m
  pub left : ArePropertiesIn r
  pub is : properties_in s ≡ record { name = name_in (slice_range s k end); first = v; more = values_in m } ∷ properties_in r
  pub one : Property
  pub spelled : IsProperty one s r

module _ (s : List ℕ) (k : ℕ) (run : IsSpan is_white_space s 0 k) (held : ArePropertiesIn s) (lt : k < length s) (capital : IsTrue (is_upper (get_or s k 0))) (end : ℕ) (letters : IsSpan is_letter s k end) where
  -- it has one
  pub value-there : ¬ IsNoPropValue (drop end s)
  value-there none = let at = property-at s k run end (drop end s) held lt capital letters (record { values = []; spelled = no_value; none_left = none }) in there at.some at.held.spelled
    where
      there : {r : List ℕ} {vs : List (List ℕ)} → 0 < length vs → ¬ ArePropValues vs (drop end s) r
      there some no_value = absurd (omega arith)
      there some (value {v} {t} first more) = none v t first

  pub next-property : (v m r : List ℕ) → IsPropValue v (drop end s) m → IsPastValues m r → IsNextProperty s k end v m r
  next-property v m r first past =
      let at = property-at s k run end r held lt capital letters (record { values = v ∷ past.values; spelled = value first past.spelled; none_left = past.none_left }) in
      search (rules, next-value)

-- there are no more of them than bytes
pub count-properties-held : {s : List ℕ} → ArePropertiesIn s → length (properties_in s) ≤ length s
count-properties-held held = grind (arith, common_steps, properties-in, count-properties)

pub count_values_held : {s : List ℕ} → AreValuesIn s → length (values_in s) ≤ length s
count_values_held held = grind (arith, common_steps, values-in, count-values)
