-- What is left after a thing is an end of what was left before it.
use Rattle.sgf_properties.proofs.Common.{◌≡◌, ℕ, ◌+◌, ◌-◌, ◌≤◌, List, ◌∷◌, length, drop, sym, ap, ◌∙◌, arith, drop-drop, common_steps, Property, IsValue, no_unit, ordinary, escaped, WhiteSpace, no_white_space, white_space, Letters, no_letter, upper, lower, IsPropValue, prop_value, ArePropValues, no_value, value, IsProperty, property, AreProperties, no_property, properties}

-- s is the end of t
pub data IsEnd (t : List ℕ) : List ℕ → Type 0 where
  all : IsEnd t t
  tail : {b : ℕ} {s : List ℕ} → IsEnd t (b ∷ s) → IsEnd t s

module _ {t : List ℕ} where
  pub end-drop : {s : List ℕ} → IsEnd t s → (length s ≤ length t) × (drop (length t - length s) t ≡ s)
  end-drop all = let e : length t - length t ≡ 0 = omega arith in (omega arith, rw e)
  end-drop {s} (tail {b} e) =
      let h = end-drop e in
      let n : length t - length s ≡ length t - length (b ∷ s) + 1 = omega (arith, h.0) in
      (omega (arith, h.0), rw n (sym (drop-drop 1 (length t - length (b ∷ s)) t) ∙ ap (drop 1) h.1))

  pub end-WhiteSpace : {s r : List ℕ} → WhiteSpace s r → IsEnd t s → IsEnd t r
  end-WhiteSpace no_white_space e = e
  end-WhiteSpace (white_space h w) e = end-WhiteSpace w (tail e)

  pub end-Letters : {name s r : List ℕ} → Letters name s r → IsEnd t s → IsEnd t r
  end-Letters no_letter e = e
  end-Letters (upper h l) e = end-Letters l (tail e)
  end-Letters (lower h l) e = end-Letters l (tail e)

  pub end-IsValue : {v s r : List ℕ} → IsValue v s r → IsEnd t s → IsEnd t r
  end-IsValue no_unit e = e
  end-IsValue (ordinary x y v) e = end-IsValue v (tail e)
  end-IsValue (escaped v) e = end-IsValue v (tail (tail e))

  pub end-IsPropValue : {v s r : List ℕ} → IsPropValue v s r → IsEnd t s → IsEnd t r
  end-IsPropValue (prop_value w v) e = tail (end-IsValue v (tail (end-WhiteSpace w e)))

  pub end-ArePropValues : {vs : List (List ℕ)} {s r : List ℕ} → ArePropValues vs s r → IsEnd t s → IsEnd t r
  end-ArePropValues no_value e = e
  end-ArePropValues (value v vs) e = end-ArePropValues vs (end-IsPropValue v e)

  end-IsProperty : {p : Property} {s r : List ℕ} → IsProperty p s r → IsEnd t s → IsEnd t r
  end-IsProperty (property w h l v vs) e = grind (arith, common_steps, end-ArePropValues, end-IsPropValue, end-Letters, tail, end-WhiteSpace)

  pub end-AreProperties : {ps : List Property} {s r : List ℕ} → AreProperties ps s r → IsEnd t s → IsEnd t r
  end-AreProperties no_property e = e
  end-AreProperties (properties p ps) e = end-AreProperties ps (end-IsProperty p e)
