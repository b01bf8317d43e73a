-- Numbers of past colourings, and starts of stretches.
use Rattle.board_past.proofs.Common.{◌≡◌, ◌⊎◌, ℕ, zero, suc, ◌-◌, ◌<◌, ◌≤◌, Bool, true, false, if◌then◌else◌, List, [], ◌∷◌, Some, length, get_or, drop, Contains, inl, inr, sym, ap, subst, ◌∙◌, arith, cases_lt, cases_Bool, same_Some, Grid, Held, stretch_of, AllHaveSide, first_grid, IsNumber, HasNumber, start_of, since}

-- The newest colouring is at its number, and so are the others.

pub since-newest : (x : Held) (xs : List Held) → since (length xs) (x ∷ xs) ≡ x ∷ xs
since-newest x xs = let none : suc (length xs) - 1 - length xs ≡ 0 = omega arith in ap (λ n. drop n (x ∷ xs)) none

pub since-older : (number : ℕ) (x : Held) (xs : List Held) → number < length xs → since number (x ∷ xs) ≡ since number xs
since-older number x xs low = let next : suc (length xs) - 1 - number ≡ suc (length xs - 1 - number) = omega (arith, low) in ap (λ n. drop n (x ∷ xs)) next

pub at-newest : (x : Held) (xs : List Held) → IsNumber (x ∷ xs) (length xs) x.colouring
at-newest x xs = ap first_grid (since-newest x xs)

pub at-older : {number : ℕ} {g : Grid} (x : Held) (xs : List Held) → number < length xs → IsNumber xs number g → IsNumber (x ∷ xs) number g
at-older {number} x xs low at = ap first_grid (since-older number x xs low) ∙ at

-- a number is the newest one, or one of the others
pub cases-number : (x : Held) (xs : List Held) (number : ℕ) (g : Grid) → number < suc (length xs) → IsNumber (x ∷ xs) number g
    → ((number ≡ length xs) × (x.colouring ≡ g)) ⊎ ((number < length xs) × IsNumber xs number g)
cases-number x xs number g low at = grind (arith, at-newest, cases_lt, same_Some, since-older)

-- each number has a colouring
pub number_there : (held : List Held) (number : ℕ) → number < length held → (g : Grid) × IsNumber held number g
number_there [] number low = absurd (omega (arith, low))
number_there (x ∷ xs) number low = elim (cases_lt number (length xs)) [
  | inr newest ↦ let e : number ≡ length xs = omega (arith, low, newest) in (x.colouring, ap (λ n. first_grid (since n (x ∷ xs))) e ∙ at-newest x xs)
  | inl older ↦ let there = number_there xs number older in (there.0, at-older x xs older there.1)
]

-- each colouring has the side
pub side-number : (side : ℕ) (held : List Held) → AllHaveSide side held → (number : ℕ) (g : Grid) → number < length held → IsNumber held number g → g.side ≡ side
side-number side [] all number g low at = absurd (omega (arith, low))
side-number side (x ∷ xs) all number g low at = elim (cases-number x xs number g low at) [
  | inl newest ↦ ap (λ (y : Grid). y.side) (sym newest.1) ∙ all.0
  | inr older ↦ side-number side xs all.1 number g older.0 older.1
]

-- Starts of stretches.

pub start-le : (held : List Held) → start_of held ≤ length held
start-le [] = omega arith
start-le (x ∷ xs) = elim (cases_Bool x.begins) [ inl first ↦ rw first (omega arith) | inr later ↦ rw later (omega (arith, start-le xs)) ]

pub start-low : (x : Held) (xs : List Held) → start_of (x ∷ xs) ≤ length xs
start-low x xs = elim (cases_Bool x.begins) [ inl first ↦ rw first (omega arith) | inr later ↦ rw later (start-le xs) ]

-- a number of the present stretch has its start
pub start-since : (held : List Held) (number : ℕ) → start_of held ≤ number → number < length held → start_of (since number held) ≡ start_of held
start-since [] number low high = absurd (omega (arith, high))
start-since (x ∷ xs) number low high = elim (cases_lt number (length xs)) [
  | inr newest ↦ let at : number ≡ length xs = omega (arith, high, newest) in ap (λ n. start_of (since n (x ∷ xs))) at ∙ ap start_of (since-newest x xs)
  | inl older ↦ ap start_of (since-older number x xs older) ∙ elim (cases_Bool x.begins) [
    | inl first ↦ absurd (omega (arith, older, subst (λ (t : Bool). (if t then length xs else start_of xs) ≤ number) first low))
    | inr later ↦ start-since xs number (subst (λ (t : Bool). (if t then length xs else start_of xs) ≤ number) later low) older ∙ ap (λ (t : Bool). if t then length xs else start_of xs) (sym later)
  ]
]

-- the start of a number is no more than it
pub start-before : (held : List Held) (number : ℕ) → number < length held → start_of (since number held) ≤ number
start-before [] number high = absurd (omega (arith, high))
start-before (x ∷ xs) number high = elim (cases_lt number (length xs)) [
  | inr newest ↦
      let at : number ≡ length xs = omega (arith, high, newest) in
      subst (λ n. start_of (since n (x ∷ xs)) ≤ n) (sym at) (subst (λ (hs : List Held). start_of hs ≤ length xs) (sym (since-newest x xs)) (start-low x xs))
  | inl older ↦ subst (λ (hs : List Held). start_of hs ≤ number) (sym (since-older number x xs older)) (start-before xs number older)
]

-- a colouring of the present stretch has a number from the start on, and the other way round
pub has_number : (held : List Held) (g : Grid) → Contains (stretch_of held) g → HasNumber held (λ number. start_of held ≤ number) g
has_number [] g (j, h, e) = absurd (omega (arith, h))
has_number (x ∷ xs) g (zero, h, e) = (length xs, omega arith, start-low x xs, at-newest x xs ∙ ap (λ (y : Grid). Some y) e)
has_number (x ∷ xs) g (suc j, h, e) = later x.begins (λ low at. has_number xs g (j, low, at)) h e
  where
    later : (b : Bool) → (j < length (stretch_of xs) → get_or (stretch_of xs) j g ≡ g → HasNumber xs (λ number. start_of xs ≤ number) g)
        → suc j < length (x.colouring ∷ (if b then [] else stretch_of xs)) → get_or (if b then [] else stretch_of xs) j g ≡ g → HasNumber (x ∷ xs) (λ number. (if b then length xs else start_of xs) ≤ number) g
    later true before h e = absurd (omega (arith, h))
    later false before h e =
        let rest = before (omega (arith, h)) e in
        (rest.0, omega (arith, rest.1), rest.2, at-older x xs rest.1 rest.3)

pub has_colouring : (held : List Held) (number : ℕ) (g : Grid) → start_of held ≤ number → number < length held → IsNumber held number g → Contains (stretch_of held) g
has_colouring [] number g from low at = absurd (omega (arith, low))
has_colouring (x ∷ xs) number g from low at = elim (cases-number x xs number g low at) [
  | inl newest ↦ (zero, omega arith, newest.1)
  | inr older ↦ elim (cases_Bool x.begins) [
    | inl first ↦ absurd (omega (arith, older.0, subst (λ (t : Bool). (if t then length xs else start_of xs) ≤ number) first from))
    | inr later ↦
        let rest = has_colouring xs number g (subst (λ (t : Bool). (if t then length xs else start_of xs) ≤ number) later from) older.0 older.1 in
        subst (λ (t : Bool). Contains (x.colouring ∷ (if t then [] else stretch_of xs)) g) (sym later) (suc rest.0, omega (arith, rest.1), rest.2)
  ]
]
