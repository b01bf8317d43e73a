-- The first property of a text has one form, and the others come after it.
use Rattle.sgf_properties.proofs.Common.{◌≡◌, ◌≢◌, ℕ, ◌-◌, ◌<◌, Bool, true, false, IsTrue, List, [], ◌∷◌, ◌++◌, length, get_or, drop, refl, sym, ap, subst, ◌∙◌, inl, inr, arith, get_or-drop, length-drop, rules, cases_lt, false≢true, common_steps, is_letter, left_after, front, values_in, name_in, after_values_up_to, properties_in, NoValueFollows, NoPropertyFollows, ArePropertiesIn, IsSpan, Property, is_white_space, WhiteSpace, IsProperty, property, AreProperties, no_property, properties}
use Rattle.sgf_properties.proofs.Classes.{upper-not_white_space, white-not_bracket}
use Rattle.sgf_properties.proofs.FrontSpelled.{white-byte, white-same, white-none, ends-values, property-is, properties-in}
use Rattle.sgf_properties.proofs.Iterating.{white-to, white-all, run-drop}

-- What holds of white space, and of the byte after a run of it, holds of each byte that follows.
module _ (Holds : ℕ → Type 0) (of_white : (b : ℕ) → IsTrue (is_white_space b) → Holds b) where
  follows-run : (s : List ℕ) (k : ℕ) → IsSpan is_white_space s 0 k → (k < length s → Holds (get_or s k 0)) → (b : ℕ) (u : List ℕ) → WhiteSpace s (b ∷ u) → Holds b
  follows-run s k run next b u w =
      elim (cases_lt k (length s)) [
        | inl lt ↦
            elim (white-byte (white-to s k run lt) w (run.stops lt)) [
              | inl white ↦ of_white b white
              | inr same ↦ subst Holds (sym same) (next lt)
            ]
        | inr le ↦ by_white (is_white_space b) refl (white-all s k run le)
      ]
    where
      by_white : (c : Bool) → is_white_space b ≡ c → WhiteSpace s [] → Holds b
      by_white true white all = of_white b white
      by_white false other all = absurd (white-none all w other)

  -- the same further on
  pub follows-at : (t : List ℕ) (end next : ℕ) → IsSpan is_white_space t end next → (next < length t → Holds (get_or t next 0)) → (b : ℕ) (u : List ℕ) → WhiteSpace (drop end t) (b ∷ u) → Holds b
  follows-at t end next white holds =
      follows-run (drop end t) (next - end) (run-drop is_white_space t end next white) (λ small. subst Holds (sym (here small)) (holds (omega (arith, white.rises, length-drop end t))))
    where
      here : next - end < length (drop end t) → get_or (drop end t) (next - end) 0 ≡ get_or t next 0
      here small = grind (arith, common_steps, end, get_or-drop)

-- no value follows a run of white space before another byte
pub ends-at : (t : List ℕ) (end next : ℕ) → IsSpan is_white_space t end next → (next < length t → get_or t next 0 ≢ 91) → NoValueFollows (drop end t)
ends-at = follows-at (λ b. b ≢ 91) white-not_bracket

-- the first property has one form
pub head-same : {p q : Property} {qs : List Property} {s r m : List ℕ} → IsProperty p s r → NoValueFollows r → AreProperties (q ∷ qs) s m → NoPropertyFollows m
    → (q ≡ p) × AreProperties qs r m
head-same {qs = qs} {m = m} (property {b} {name} {v} {t = t} {u} {r = r} {vs = vs} w h l first more) ends (properties (property {b = c} {name = other} {v = x} {t = k} {u = z} {r = j} {vs = xs} w2 h2 l2 first2 more2) are) done =
    let same = white-same w w2 (upper-not_white_space b h) (upper-not_white_space c h2) in
    let i = property-is {b = b} h l first more ends in
    let o = property-is {b = c} h2 l2 first2 more2 (ends-values are done) in
    grind (arith, common_steps, same, i, o)

pub properties-more : {ps : List Property} {p : Property} {s m r : List ℕ} → AreProperties ps s m → IsProperty p m r → AreProperties (ps ++ p ∷ []) s r
properties-more no_property is = properties is no_property
properties-more (properties q qs) is = properties q (properties-more qs is)

-- a node doesn't end before a property
pub upper-first : {p : Property} {s r : List ℕ} → IsProperty p s r → ¬ NoPropertyFollows s
upper-first (property {b} {t = t} w h l first more) done = false≢true (sym (done b t w).1 ∙ h)

pub left-after : {p : Property} {s r : List ℕ} → ArePropertiesIn s → IsProperty p s r → NoValueFollows r → (properties_in s ≡ p ∷ properties_in r) × ArePropertiesIn r
left-after {p} {s} {r} held is ends = after held.properties held.rest held.spelled held.ends
  where
    after : (ps : List Property) (m : List ℕ) → AreProperties ps s m → NoPropertyFollows m → (properties_in s ≡ p ∷ properties_in r) × ArePropertiesIn r
    after [] m no_property done = absurd (upper-first is done)
    after (q ∷ qs) m are done =
        let both = head-same is ends are done in (
          properties-in are done ∙ ap (λ x. x ∷ qs) both.0 ∙ ap (λ xs. p ∷ xs) (sym (properties-in both.1 done)),
          record { properties = qs; rest = m; spelled = both.1; ends = done },
        )
