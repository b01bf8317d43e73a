-- The bytes of a raw value, and where the next `]` stands.
use Rattle.sgf_properties.proofs.Common.{rules, ◌≡◌, ◌≢◌, ℕ, ◌+◌, ◌-◌, ◌<◌, ◌≤◌, true, not, List, ◌++◌, length, get_or, take, drop, slice_range, Some, None, sym, ap, ◌∙◌, arith, eqb-true, get_or-take, get_or-drop, ne_eqb, length-take, length-drop, take-add, eq-eqb, drop-drop, and_parts, not-true, eqb-false, common_steps, is_ordinary, HasNoBracket, IsNextBracket}
use Rattle.memchr.specs.Find.{IsFirstByte, is_byte}

pub drop-span : {A : Type 0} (t : List A) (a b : ℕ) → a ≤ b → drop (b - a) (drop a t) ≡ drop b t
drop-span t a b le = let e : a + (b - a) ≡ b = omega arith in drop-drop (b - a) a t ∙ ap (λ k. drop k t) e

-- two spans side by side
pub span-join : {A : Type 0} (t : List A) (a b c : ℕ) → a ≤ b → b ≤ c → slice_range t a b ++ slice_range t b c ≡ slice_range t a c
span-join t a b c le le' =
    let e : c - a ≡ (b - a) + (c - b) = omega arith in
    rw e (sym (take-add (b - a) (c - b) (drop a t) ∙ ap (λ xs. take (b - a) (drop a t) ++ take (c - b) xs) (drop-span t a b le)))

-- an ordinary byte is neither `]` nor `\`
pub ordinary-other : (b : ℕ) → is_ordinary b ≡ true → (b ≢ 93) × (b ≢ 92)
ordinary-other b h = grind (arith, common_steps, and_parts, not, eqb-false, not-true)

-- and a byte that is neither is ordinary
pub other-ordinary : (b : ℕ) → b ≢ 93 → b ≢ 92 → is_ordinary b ≡ true
other-ordinary b x y = rw (ne_eqb b 93 x, ne_eqb b 92 y)

span-at : (t : List ℕ) (end i : ℕ) → end ≤ i → i < length t → get_or (slice_range t end (length t)) (i - end) 0 ≡ get_or t i 0
span-at t end i le lt = grind (arith, common_steps, get_or-take, get_or-drop)

-- the search for `]` finds the next one
pub bracket_found : (t : List ℕ) (at further : ℕ) → at ≤ length t
    → IsFirstByte (is_byte 93) (slice_range t at (length t)) (Some further) → IsNextBracket t at (at + further)
bracket_found t at further le found = search (rules, length-take, length-drop, span-at, eqb-true, eq-eqb)

pub bracket_none : (t : List ℕ) (at : ℕ) → at ≤ length t → IsFirstByte (is_byte 93) (slice_range t at (length t)) None → HasNoBracket t at (length t)
bracket_none t at le none = search (rules, length-take, length-drop, eq-eqb, span-at)
