-- What stands at the front of a text, by its functions and by the grammar.
use Rattle.sgf_properties.proofs.Common.{◌≡◌, ℕ, zero, suc, ◌+◌, ◌<◌, ◌≤◌, Bool, true, false, ◌==◌, if◌then◌else◌, IsTrue, List, [], ◌∷◌, length, filter, refl, sym, ap, subst, ◌∙◌, ◌⊎◌, inl, inr, arith, ne_eqb, rules, false≢true, or_right, common_steps, is_letter, left_after, front, raw_value, after_raw_value, by_front, values_up_to, after_values_up_to, values_in, property_from, name_in, properties_up_to, properties_in, NoValueFollows, NoPropertyFollows, Property, IsValue, no_unit, ordinary, escaped, is_white_space, is_upper, WhiteSpace, no_white_space, white_space, Letters, no_letter, upper, lower, IsPropValue, prop_value, ArePropValues, no_value, value, IsProperty, property, AreProperties, no_property, properties, IsNoPropValue}
use Rattle.sgf_properties.proofs.Classes.{upper-not_white_space, upper-not_bracket, white-not_upper, white-not_lower, lower-not_upper}
use Rattle.sgf_properties.proofs.Ends.{all, tail, end-drop, end-WhiteSpace, end-Letters, end-IsValue, end-IsPropValue, end-ArePropValues}
use Rattle.sgf_properties.proofs.ValueSpelled.{value-same}

-- white space that is passed over leaves what stands after all of it
pub white-past : {r s u : List ℕ} {b : ℕ} → WhiteSpace r s → WhiteSpace r (b ∷ u) → is_white_space b ≡ false → WhiteSpace s (b ∷ u)
white-past no_white_space v h = v
white-past (white_space k w) no_white_space h = absurd (false≢true (sym h ∙ k))
white-past (white_space k w) (white_space l v) h = white-past w v h

white-front : {t u : List ℕ} {b c : ℕ} → WhiteSpace (b ∷ t) (c ∷ u) → IsTrue (is_white_space b) ⊎ ((b ≡ c) × (t ≡ u))
white-front no_white_space = inr (refl, refl)
white-front (white_space k w) = inl k

-- the byte after white space is the one after all of it, or white itself
pub white-byte : {s t u : List ℕ} {b c : ℕ} → WhiteSpace s (b ∷ t) → WhiteSpace s (c ∷ u) → is_white_space b ≡ false → IsTrue (is_white_space c) ⊎ (c ≡ b)
white-byte w v h = elim (white-front (white-past v w h)) [ inl k ↦ inl k | inr e ↦ inr e.0 ]

-- white space ends before one byte
pub white-same : {s t u : List ℕ} {b c : ℕ} → WhiteSpace s (b ∷ t) → WhiteSpace s (c ∷ u) → is_white_space b ≡ false → is_white_space c ≡ false → (b ≡ c) × (t ≡ u)
white-same w v h k = elim (white-front (white-past w v k)) [ inl l ↦ absurd (false≢true (sym h ∙ l)) | inr e ↦ e ]

pub white-join : {s t u : List ℕ} → WhiteSpace s t → WhiteSpace t u → WhiteSpace s u
white-join no_white_space v = v
white-join (white_space h w) v = white_space h (white-join w v)

pub white-none : {s t : List ℕ} {b : ℕ} → WhiteSpace s [] → WhiteSpace s (b ∷ t) → is_white_space b ≡ false → ⊥
white-none w v h = elim (white-past w v h) [ ]

-- a value in front has one form and one end
pub prop-same : {u v s q r : List ℕ} → IsPropValue u s q → IsPropValue v s r → (u ≡ v) × (q ≡ r)
prop-same {u} {v} {s} {q} {r} (prop_value {t = x} w h) (prop_value {t = y} z k) = grind (arith, common_steps, white-same, value-same)

pub ends-value : {v s r : List ℕ} → NoValueFollows s → ¬ IsPropValue v s r
ends-value ends (prop_value {t} w h) = ends 91 t w refl

-- the values in front end where no value follows
pub past-same : {us vs : List (List ℕ)} {s q r : List ℕ} → ArePropValues us s q → NoValueFollows q → ArePropValues vs s r → IsNoPropValue r → q ≡ r
past-same no_value ends no_value none = refl
past-same no_value ends (value v vs) none = absurd (ends-value ends v)
past-same (value {v} {t} u us) ends no_value none = absurd (none v t u)
past-same {r = r} (value u us) ends (value {t} {vs} v are) none =
    let e = (prop-same u v).1 in past-same us ends (subst (λ x. ArePropValues vs x r) (sym e) are) none

pub left-white : {s t : List ℕ} {b : ℕ} → WhiteSpace s (b ∷ t) → is_white_space b ≡ false → left_after is_white_space s ≡ b ∷ t
unfolding left_after
left-white no_white_space h = rw h
left-white (white_space k w) h = rw k (left-white w h)

white-step : (b : ℕ) (s l : List ℕ) (w : Bool) → WhiteSpace s l → is_white_space b ≡ w → WhiteSpace (b ∷ s) (if w then l else b ∷ s)
white-step b s l true h e = white_space e h
white-step b s l false h e = no_white_space

pub white-left : (s : List ℕ) → WhiteSpace s (left_after is_white_space s)
unfolding left_after
white-left [] = no_white_space
white-left (b ∷ s) = white-step b s (left_after is_white_space s) (is_white_space b) (white-left s) refl

-- letters end before white space and a `[`
stop-letters : {u x : List ℕ} → WhiteSpace u (91 ∷ x) → (left_after is_letter u ≡ u) × (front is_letter u ≡ [])
unfolding left_after front
stop-letters h = search (rules, white-not_upper, white-not_lower)

over-letters : {name s u x : List ℕ} → Letters name s u → WhiteSpace u (91 ∷ x) → (left_after is_letter s ≡ u) × (filter is_upper (front is_letter s) ≡ name)
unfolding left_after front
over-letters no_letter w = let h = stop-letters w in (h.0, ap (filter is_upper) h.1)
over-letters (upper {b} h l) w = search (rules, (over-letters l w))
over-letters (lower {b} h l) w = search (rules, or_right, lower-not_upper, (over-letters l w))

value-parts : {v s r : List ℕ} → IsValue v s (93 ∷ r) → (raw_value s ≡ v) × (after_raw_value s ≡ r)
unfolding raw_value after_raw_value
value-parts {r = []} no_unit = (refl, refl)
value-parts {r = b ∷ r} no_unit = (refl, refl)
value-parts {s = b ∷ []} (ordinary x y h) = elim h [ ]
value-parts {s = b ∷ c ∷ s} (ordinary x y h) = search (rules, ne_eqb, (value-parts h))
value-parts (escaped {b} h) = let k = value-parts h in (ap (λ u. 92 ∷ b ∷ u) k.0, k.1)

-- no value in front
none-front : {A : Type 0} (f : ℕ → List ℕ → A) (none : A) (s l : List ℕ) → WhiteSpace s l → NoValueFollows s → by_front (λ b t. if b == 91 then f b t else none) none l ≡ none
none-front f none s l h k = search (rules, ne_eqb)

values-are : {vs : List (List ℕ)} {s r : List ℕ} (n : ℕ) → ArePropValues vs s r → NoValueFollows r → length vs ≤ n → (values_up_to n s ≡ vs) × (after_values_up_to n s ≡ r)
unfolding values_up_to after_values_up_to
values-are zero no_value ends le = (refl, refl)
values-are zero (value v vs) ends le = absurd (omega arith)
values-are {s = s} (suc n) no_value ends le = (
  none-front (λ b t. raw_value t ∷ values_up_to n (after_raw_value t)) [] s (left_after is_white_space s) (white-left s) ends,
  none-front (λ b t. after_values_up_to n (after_raw_value t)) s s (left_after is_white_space s) (white-left s) ends,
)
values-are (suc n) (value (prop_value {value = v} {t} w h) vs) ends le = search (rules, value-parts, left-white, (values-are n vs ends (omega arith)))

pub shorter-value : {v s r : List ℕ} → IsPropValue v s r → length r < length s
shorter-value (prop_value w h) = omega (arith, (end-drop (end-IsValue h (tail (end-WhiteSpace w all)))).0)

pub count-values : {vs : List (List ℕ)} {s r : List ℕ} → ArePropValues vs s r → length vs + length r ≤ length s
count-values no_value = omega arith
count-values (value v vs) = let a = shorter-value v in let b = count-values vs in omega arith

pub values-in : {vs : List (List ℕ)} {s r : List ℕ} → ArePropValues vs s r → NoValueFollows r → values_in s ≡ vs
unfolding values_in
values-in {s = s} h ends = (values-are (length s) h ends (omega (arith, count-values h))).0

-- no value follows where a node ends, or a property begins
pub ends-values : {ps : List Property} {s r : List ℕ} → AreProperties ps s r → NoPropertyFollows r → NoValueFollows s
ends-values no_property ends = λ c u v. (ends c u v).0
ends-values {s = s} (properties (property {b} w h l first vs) ps) ends = λ c u v e.
    elim (white-byte w (subst (λ x. WhiteSpace s (x ∷ u)) e v) (upper-not_white_space b h)) [
      | inl k ↦ false≢true k
      | inr k ↦ false≢true (sym (upper-not_bracket b h) ∙ ap (λ x. x == 91) (sym k))
    ]

-- no capital follows
abbrev pub NoNameFollows : List ℕ → Type 0
NoNameFollows s = (b : ℕ) (t : List ℕ) → WhiteSpace s (b ∷ t) → is_upper b ≡ false

none-upper : {A : Type 0} (f : ℕ → List ℕ → A) (none : A) (s l : List ℕ) → WhiteSpace s l → NoNameFollows s → by_front (λ b t. if is_upper b then f b t else none) none l ≡ none
none-upper f none s l h k = search rules

-- the first property
pub property-is : {b : ℕ} {name t u : List ℕ} {v : List ℕ} {vs : List (List ℕ)} {w r : List ℕ} → IsTrue (is_upper b) → Letters name t u → IsPropValue v u w → ArePropValues vs w r → NoValueFollows r
    → (left_after is_letter (b ∷ t) ≡ u) × (name_in (front is_letter (b ∷ t)) ≡ b ∷ name) × (values_in u ≡ v ∷ vs) × (after_values_up_to (length t) u ≡ r)
unfolding left_after front
property-is {b} h l (prop_value x k) vs ends =
    let letters = over-letters l x in
    let held = value (prop_value x k) vs in (
      rw h letters.0,
      rw (h, h) (ap (λ n. b ∷ n) letters.1),
      values-in held ends,
      (values-are _ held ends (omega (arith, count-values held, (end-drop (end-Letters l all)).0))).1,
    )

properties-are : {ps : List Property} {s r : List ℕ} (n : ℕ) → AreProperties ps s r → NoPropertyFollows r → length ps ≤ n → properties_up_to n s ≡ ps
unfolding properties_up_to
properties-are zero no_property ends le = refl
properties-are zero (properties p ps) ends le = absurd (omega arith)
properties-are {s = s} (suc n) no_property ends le =
    none-upper (λ b t. property_from (name_in (front is_letter (b ∷ t))) (values_in (left_after is_letter (b ∷ t))) ∷ properties_up_to n (after_values_up_to (length t) (left_after is_letter (b ∷ t)))) [] s (left_after is_white_space s) (white-left s) (λ b t w. (ends b t w).1)
properties-are (suc n) (properties (property {b} {name} {v} {vs = vs} w h l first more) ps) ends le =
    let is = property-is {b = b} h l first more (ends-values ps ends) in
    search (rules, left-white, upper-not_white_space, (properties-are n ps ends (omega arith)))

shorter-property : {p : Property} {s r : List ℕ} → IsProperty p s r → length r < length s
shorter-property (property w h l v vs) = omega (arith, (end-drop (end-WhiteSpace w all)).0, (end-drop (end-ArePropValues vs (end-IsPropValue v (end-Letters l all)))).0)

pub count-properties : {ps : List Property} {s r : List ℕ} → AreProperties ps s r → length ps + length r ≤ length s
count-properties no_property = omega arith
count-properties (properties p ps) = let a = shorter-property p in let b = count-properties ps in omega arith

pub properties-in : {ps : List Property} {s r : List ℕ} → AreProperties ps s r → NoPropertyFollows r → properties_in s ≡ ps
unfolding properties_in
properties-in {s = s} h ends = properties-are (length s) h ends (omega (arith, count-properties h))
