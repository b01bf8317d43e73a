-- Numbers that rise strictly.
use Rattle.sgf_outline.proofs.Common.{rules, ◌≡◌, ℕ, zero, suc, ◌+◌, ◌<◌, ◌≤◌, List, [], ◌∷◌, ◌++◌, length, get_or, Some, slice_get, arith, cases_lt, common_steps, slice_get-get_or}

-- the numbers rise strictly, from low on and below high
abbrev pub Rises : ℕ → List ℕ → ℕ → Type 0
Rises low [] high = low ≤ high
Rises low (p ∷ ps) high = (low ≤ p) × Rises (p + 1) ps high

pub rises-low : (a b : ℕ) (ps : List ℕ) (c : ℕ) → a ≤ b → Rises b ps c → Rises a ps c
rises-low a b [] c h r = omega arith
rises-low a b (p ∷ ps) c h r = (omega arith, r.1)

pub rises-append : (a b c : ℕ) (ps qs : List ℕ) → Rises a ps b → Rises b qs c → Rises a (ps ++ qs) c
rises-append a b c [] qs r s = rises-low a b qs c r s
rises-append a b c (p ∷ ps) qs r s = (r.0, rises-append (p + 1) b c ps qs r.1 s)

pub rises-ends : (low high : ℕ) (ps : List ℕ) → Rises low ps high → low ≤ high
rises-ends low high [] r = r
rises-ends low high (p ∷ ps) r = let k = rises-ends (p + 1) high ps r.1 in omega arith

pub rises-get : (low high : ℕ) (ps : List ℕ) (i p : ℕ) → Rises low ps high → slice_get ps i ≡ Some p → (low ≤ p) × (p < high)
rises-get low high [] i p r e = cc
rises-get low high (q ∷ ps) zero p r e = grind (arith, common_steps, rises-ends)
rises-get low high (q ∷ ps) (suc i) p r e = search (rules, (rises-get (q + 1) high ps i p r.1 e))

pub rises-pair : (low high : ℕ) (ps : List ℕ) (i j p q : ℕ) → Rises low ps high → i < j → slice_get ps i ≡ Some p → slice_get ps j ≡ Some q → p < q
rises-pair low high [] i j p q r h e f = cc
rises-pair low high (x ∷ ps) zero zero p q r h e f = omega arith
rises-pair low high (x ∷ ps) zero (suc j) p q r h e f = grind (arith, common_steps, rises-get)
rises-pair low high (x ∷ ps) (suc i) zero p q r h e f = omega arith
rises-pair low high (x ∷ ps) (suc i) (suc j) p q r h e f = search (rules, (rises-pair (x + 1) high ps i j p q r.1 (omega arith) e f))

-- a number is at most a later one
pub rises-most : (low high : ℕ) (ps : List ℕ) (i j : ℕ) → Rises low ps high → i ≤ j → j < length ps → get_or ps i 0 ≤ get_or ps j 0
rises-most low high ps i j r le within = search (rules, cases_lt, rises-pair, slice_get-get_or)

-- there is room for them
pub rises-count : (low high : ℕ) (ps : List ℕ) → Rises low ps high → low + length ps ≤ high
rises-count low high [] r = omega (arith, r)
rises-count low high (p ∷ ps) r = omega (arith, r.0, rises-count (p + 1) high ps r.1)
