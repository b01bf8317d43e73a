use Rattle.sgf_properties.proofs.Common.{◌≡◌, ◌≢◌, ℕ, Bool, true, false, ◌==◌, List, [], ◌∷◌, ◌++◌, refl, sym, ap, subst, ◌∙◌, append-nil, arith, rules, common_steps, eqb-true, is_break, is_pair, MakesNoPair, IsDecoded, nothing, last_backslash, escaped_pair, escaped_break, escaped_byte, pair, line_break, ordinary_byte, unescaped, after_backslash, text_of}
use Rattle.sgf_properties.proofs.laws.decoded.Goals as goal

pair_no_backslash : (b n : ℕ) → is_pair b n ≡ true → (b == 92) ≡ false
pair_no_backslash b n h = grind arith

break_no_backslash : (b : ℕ) → is_break b ≡ true → (b == 92) ≡ false
break_no_backslash b h = grind arith

not_backslash : (b : ℕ) → b ≢ 92 → (b == 92) ≡ false
not_backslash b h = grind arith

no-pair : (b : ℕ) (rest : List ℕ) → is_break b ≡ false → MakesNoPair b rest
no-pair b rest h = search rules

-- a byte that no `\` stands before
front-byte : (b : ℕ) (rest text : List ℕ) → (b == 92) ≡ false → MakesNoPair b rest → IsDecoded rest text → IsDecoded (b ∷ rest) (unescaped b ∷ text)
front-byte b rest text h none d = grind (arith, common_steps, line_break, ordinary_byte)

-- a byte after a `\`
after-byte : (b : ℕ) (rest text : List ℕ) → MakesNoPair b rest → IsDecoded rest text → IsDecoded (92 ∷ b ∷ rest) (after_backslash b ++ text)
after-byte b rest text none d = grind (arith, common_steps, escaped_break, escaped_byte)

module _ (b : ℕ) where
  one-by : (c : Bool) → (b == 92) ≡ c → IsDecoded (b ∷ []) (text_of (b ∷ []))
  one-by true e = subst (λ x. IsDecoded (x ∷ []) (text_of (x ∷ []))) (sym (eqb-true b 92 e)) last_backslash
  one-by false e = rw e (front-byte b [] [] e tt nothing)

  module _ (n : ℕ) (one : IsDecoded (n ∷ []) (text_of (n ∷ []))) where
    two-by : (c p : Bool) → (b == 92) ≡ c → is_pair b n ≡ p → IsDecoded (b ∷ n ∷ []) (text_of (b ∷ n ∷ []))
    two-by true p e f =
        subst (λ x. IsDecoded (x ∷ n ∷ []) (text_of (x ∷ n ∷ []))) (sym (eqb-true b 92 e)) (subst (IsDecoded (92 ∷ n ∷ [])) (append-nil (after_backslash n)) (after-byte n [] [] tt nothing))
    two-by false true e f = rw (e, f) (pair f nothing)
    two-by false false e f = rw (e, f) (front-byte b (n ∷ []) (text_of (n ∷ [])) e f one)

  module _ (n t : ℕ) (rest : List ℕ) (far : IsDecoded rest (text_of rest)) (near : IsDecoded (t ∷ rest) (text_of (t ∷ rest)))
      (next : IsDecoded (n ∷ t ∷ rest) (text_of (n ∷ t ∷ rest))) where
    escaped-by : (p : Bool) → is_pair n t ≡ p → IsDecoded (92 ∷ n ∷ t ∷ rest) (text_of (92 ∷ n ∷ t ∷ rest))
    escaped-by true f = rw f (escaped_pair f far)
    escaped-by false f = rw f (after-byte n (t ∷ rest) (text_of (t ∷ rest)) f near)

    more-by : (c p : Bool) → (b == 92) ≡ c → is_pair b n ≡ p → IsDecoded (b ∷ n ∷ t ∷ rest) (text_of (b ∷ n ∷ t ∷ rest))
    more-by true p e f =
        subst (λ x. IsDecoded (x ∷ n ∷ t ∷ rest) (text_of (x ∷ n ∷ t ∷ rest))) (sym (eqb-true b 92 e)) (escaped-by (is_pair n t) refl)
    more-by false true e f = rw (e, f) (pair f near)
    more-by false false e f = rw (e, f) (front-byte b (n ∷ t ∷ rest) (text_of (n ∷ t ∷ rest)) e f next)

-- what the function computes is the text by the rules
is-decoded : (raw : List ℕ) → IsDecoded raw (text_of raw)
is-decoded [] = nothing
is-decoded (b ∷ []) = one-by b (b == 92) refl
is-decoded (b ∷ n ∷ []) = two-by b n (is-decoded (n ∷ [])) (b == 92) (is_pair b n) refl refl
is-decoded (b ∷ n ∷ t ∷ rest) = search (rules, more-by, (is-decoded rest), (is-decoded (t ∷ rest)), (is-decoded (n ∷ t ∷ rest)))

-- what the function computes of a byte in front, and of an escaped one
text-front : (b : ℕ) (rest : List ℕ) → (b == 92) ≡ false → MakesNoPair b rest → text_of (b ∷ rest) ≡ unescaped b ∷ text_of rest
text-front b rest h k = search rules

text-after : (b : ℕ) (rest : List ℕ) → MakesNoPair b rest → text_of (92 ∷ b ∷ rest) ≡ after_backslash b ++ text_of rest
text-after b rest h = search (rules, append-nil)

text-pair : (b n : ℕ) (rest : List ℕ) → is_pair b n ≡ true → text_of (b ∷ n ∷ rest) ≡ 10 ∷ text_of rest
text-pair b n rest h = search (rules, pair_no_backslash)

-- and it is the one text
decoded-is : {raw text : List ℕ} → IsDecoded raw text → text ≡ text_of raw
decoded-is nothing = refl
decoded-is last_backslash = refl
decoded-is (escaped_pair {rest} h d) = rw h (decoded-is d)
decoded-is (escaped_break {byte} {rest} h none d) = sym (text-after byte rest none ∙ rw h (sym (decoded-is d)))
decoded-is (escaped_byte {byte} {rest} h d) = search (rules, text-after, no-pair, (decoded-is d))
decoded-is (pair {first} {second} {rest} h d) = ap (λ t. 10 ∷ t) (decoded-is d) ∙ sym (text-pair first second rest h)
decoded-is (line_break {byte} {rest} h none d) = search (rules, text-front, break_no_backslash, (decoded-is d))
decoded-is (ordinary_byte {byte} {rest} other h d) = search (rules, text-front, not_backslash, no-pair, (decoded-is d))

pub returns : goal.returns
returns c = λ raw text. (λ d. decoded-is d, λ is. subst (IsDecoded raw) (sym is) (is-decoded raw))
