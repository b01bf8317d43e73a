-- A node that begins with a property of one letter and one value of two bytes.
use Rattle.sgf_outline.proofs.Common.{◌≡◌, ◌≢◌, ℕ, ◌<◌, false, List, ◌∷◌, length, get_or, take, drop, slice_range, sym, ap, subst, arith, common_steps, properties_in, NoValueFollows, NoPropertyFollows, ArePropertiesIn, IsSpan, no_unit, ordinary, IsMove, is_white_space, is_upper, no_white_space, no_letter, prop_value, no_value, IsProperty, property, Property, lone_property, IsNodeEnd, IsLoneFront, byte-at, empty-span, between-not_upper, between-not_white_space, white-not_bracket, white-not_upper, ordinary-other, follows-at, ends-at, left-after}

-- nothing is skipped before a byte above the space
pub nothing-skipped : (t : List ℕ) (at : ℕ) → at < length t → 32 < get_or t at 0 → IsSpan is_white_space t at at
nothing-skipped t at lt above = empty-span t at (omega arith) (λ lt'. between-not_white_space (get_or t at 0) above)

-- a node ends where a byte before the letters follows white space
pub ends-node : (s : List ℕ) (k e : ℕ) → IsNodeEnd s k e → NoPropertyFollows (drop k s)
ends-node s k e end =
    follows-at (λ b. (b ≢ 91) × (is_upper b ≡ false)) (λ b white. (white-not_bracket b white, white-not_upper b white)) s k e end.white_space
    (λ _. ((λ is. omega (arith, end.below)), between-not_upper (get_or s e 0) end.below))

-- its bytes in a node
module _ (s : List ℕ) (is : IsMove s 1) where
  abbrev letter : ℕ
  letter = get_or s 1 0

  abbrev rest : List ℕ
  rest = drop 6 s

  value-here : drop 3 s ≡ get_or s 3 0 ∷ get_or s 4 0 ∷ 93 ∷ rest
  value-here = grind (arith, common_steps, byte-at)

  here : drop 1 s ≡ letter ∷ 91 ∷ get_or s 3 0 ∷ get_or s 4 0 ∷ 93 ∷ rest
  here = grind (arith, common_steps, byte-at, value-here)

  -- the property in front
  abbrev pub lone : Property
  lone = lone_property (get_or s 1 0) (slice_range s 3 5)

  pub spelled : IsProperty lone (drop 1 s) rest
  spelled =
      let (p, q) = ordinary-other (get_or s 3 0) (is.value.ordinary.passing 3 (omega arith) (omega arith)) in
      let (u, v) = ordinary-other (get_or s 4 0) (is.value.ordinary.passing 4 (omega arith) (omega arith)) in
      subst (λ t. IsProperty lone t rest) (sym here)
      (subst (λ v. IsProperty (lone_property letter v) (letter ∷ 91 ∷ get_or s 3 0 ∷ get_or s 4 0 ∷ 93 ∷ rest) rest) (ap (take 2) (sym value-here))
      (property no_white_space is.capital no_letter (prop_value no_white_space (ordinary p q (ordinary u v no_unit))) no_value))

-- no value follows the first property of a node
pub lone-ends : (s : List ℕ) → IsLoneFront s → NoValueFollows (drop 6 s)
lone-ends s is = ends-at s 6 is.ends.next is.ends.white_space is.ends.other

-- the first property of a node, and what is left
pub front-left : (s : List ℕ) (is : IsLoneFront s) → ArePropertiesIn (drop 1 s) → (properties_in (drop 1 s) ≡ lone s is.front ∷ properties_in (drop 6 s)) × ArePropertiesIn (drop 6 s)
front-left s is held = left-after held (spelled s is.front) (lone-ends s is)
