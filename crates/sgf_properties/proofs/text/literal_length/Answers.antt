use Rattle.sgf_properties.proofs.Common.{◌≡◌, ℕ, zero, suc, ◌+◌, ◌≤◌, true, false, ◌==◌, List, [], ◌∷◌, ◌++◌, length, take, drop, refl, ap, sym, ◌∙◌, inl, inr, arith, rules, cases_lt, common_steps, take-append-drop, list_all, text_of, is_pair, unescaped, is_literal, AreLiterals}
use Rattle.sgf_properties.proofs.text.literal_length.Goals as goal

-- The bytes that stand for themselves, whatever follows.
not_backslash : (a : ℕ) → is_literal a ≡ true → (a == 92) ≡ false
not_backslash a h = grind arith

not_of_pair : (a b : ℕ) → is_literal a ≡ true → is_pair a b ≡ false
not_of_pair a b h = grind arith

unescaped-literal : (a : ℕ) → is_literal a ≡ true → unescaped a ≡ a
unescaped-literal a h = grind arith

text_of-literal : (a : ℕ) (s : List ℕ) → is_literal a ≡ true → text_of (a ∷ s) ≡ a ∷ text_of s
text_of-literal a s h = search (rules, not_backslash, unescaped-literal, not_of_pair)

text_of-literals : (xs s : List ℕ) → list_all is_literal xs ≡ true → text_of (xs ++ s) ≡ xs ++ text_of s
text_of-literals [] s h = refl
text_of-literals (x ∷ xs) s h =
    let first : is_literal x ≡ true = grind arith in
    let rest : list_all is_literal xs ≡ true = grind arith in
    text_of-literal x (xs ++ s) first ∙ ap (λ t. x ∷ t) (text_of-literals xs s rest)

-- bytes that are literal one by one are so together
all-literal : (xs : List ℕ) (n : ℕ) → n ≤ length xs → AreLiterals xs 0 n → list_all is_literal (take n xs) ≡ true
all-literal xs zero within each = refl
all-literal [] (suc n) within each = absurd (omega arith)
all-literal (x ∷ xs) (suc n) within each =
    let first : is_literal x ≡ true = each 0 (omega arith) (omega arith) in
    search (rules, (all-literal xs n (omega arith) (λ i low high. each (suc i) (omega arith) (omega arith))))

pub text_of_literals_before : (xs : List ℕ) (n : ℕ) → n ≤ length xs → AreLiterals xs 0 n → text_of xs ≡ take n xs ++ text_of (drop n xs)
text_of_literals_before xs n within each = ap text_of (sym (take-append-drop n xs)) ∙ text_of-literals (take n xs) (drop n xs) (all-literal xs n within each)

pub returns-then-more-lt-TOGETHER-clause-literal : goal.returns-then-more-lt-TOGETHER-clause-literal
returns-then-more-lt-TOGETHER-clause-literal c =
    let end = c.together.end + c.near_literals-more.result in
    text_of_literals_before c.args.raw.now end (omega (arith, c.near_literals-more.ensures.at_most, c.together-test.true))
    (λ i low high. elim (cases_lt i c.together.end) [
      | inl before ↦ c.together.invariant.so_far i low before
      | inr from ↦ c.near_literals-more.ensures.literal i (omega arith) high
    ])

pub returns-else-not-matches-clause-literal : goal.returns-else-not-matches-clause-literal
returns-else-not-matches-clause-literal c = grind (arith, common_steps, text_of_literals_before)

pub returns-after-bytes-clause-literal : goal.returns-after-bytes-clause-literal
returns-after-bytes-clause-literal c = grind (arith, common_steps, text_of_literals_before)
