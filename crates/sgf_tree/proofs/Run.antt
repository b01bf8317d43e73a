-- How the machine goes over one text and then another, and over one byte more.
use Rattle.sgf_tree.proofs.Common.{◌≡◌, ℕ, ◌+◌, ◌-◌, ◌<◌, ◌≤◌, List, [], ◌∷◌, ◌++◌, length, get_or, take, drop, slice_range, Some, None, option_and_then, refl, sym, ap, ◌∙◌, add-zero, arith, rules, take-add, length-take-le, take-append-drop, common_steps, take_more, option_and_then_some, MachineState, start, next_state, run, accepted, collection_of}

-- the machine goes over a, and then over b from where it stands
pub run-append : (at : ℕ) (z : MachineState) (a b : List ℕ)
    → run at z (a ++ b) ≡ option_and_then (λ next. run (at + length a) next b) (run at z a)
unfolding run
run-append at z [] b = rw add-zero
run-append at z (x ∷ a) b =
    let e : at + length (x ∷ a) ≡ at + 1 + length a = omega arith in
    rw e (elim (next_state at z x) as (λ o. option_and_then (λ next. run (at + 1) next (a ++ b)) o
    ≡ option_and_then (λ next. run (at + 1 + length a) next b) (option_and_then (λ next. run (at + 1) next a) o)) [ None ↦ refl | Some y ↦ run-append (at + 1) y a b ])

-- what a run of two texts says of the first and the second
pub run-through : (at : ℕ) (z y : MachineState) (a b : List ℕ) → run at z a ≡ Some y → run at z (a ++ b) ≡ run (at + length a) y b
run-through at z y a b h = run-append at z a b ∙ ap (option_and_then (λ next. run (at + length a) next b)) h

-- one byte
pub run-one : (at : ℕ) (z : MachineState) (b : ℕ) → run at z (b ∷ []) ≡ next_state at z b
unfolding run
run-one at z b = grind (arith, common_steps, option_and_then)

-- a run of a text is one of its front, and then of what is after it
pub run-cut : (n : ℕ) (t : List ℕ)
    → run 0 start t ≡ option_and_then (λ next. run (0 + length (take n t)) next (drop n t)) (run 0 start (take n t))
run-cut n t = ap (run 0 start) (sym (take-append-drop n t)) ∙ run-append 0 start (take n t) (drop n t)

-- the bytes up to an offset, and the one there
pub run-take-more : (t : List ℕ) (at : ℕ) (z : MachineState) → at < length t → run 0 start (take at t) ≡ Some z
    → run 0 start (take (at + 1) t) ≡ next_state at z (get_or t at 0)
run-take-more t at z lt h =
    let e : 0 + length (take at t) ≡ at = omega (arith, length-take-le at t) in
    rw (take_more t at 0 lt, run-through 0 start z (take at t) (get_or t at 0 ∷ []) h, e) (run-one at z (get_or t at 0))

-- the byte at an offset is taken
pub run-take-step : (t : List ℕ) (at : ℕ) (z y : MachineState) → run 0 start (take at t) ≡ Some z → at < length t
    → next_state at z (get_or t at 0) ≡ Some y → run 0 start (take (at + 1) t) ≡ Some y
run-take-step t at z y h lt s = run-take-more t at z lt h ∙ s

-- the bytes between two offsets are taken
pub run-take-span : (t : List ℕ) (at end : ℕ) (z y : MachineState) → at ≤ end → end ≤ length t → run 0 start (take at t) ≡ Some z → run at z (slice_range t at end) ≡ Some y
    → run 0 start (take end t) ≡ Some y
run-take-span t at end z y low within h s =
    let e : 0 + length (take at t) ≡ at = omega (arith, length-take-le at t) in
    let f : at + (end - at) ≡ end = omega arith in
    search (rules, take-add, run-through)

-- no byte has been read
pub run-take-none : (t : List ℕ) → run 0 start (take 0 t) ≡ Some start
unfolding run
run-take-none t = refl

-- a text that is refused stays so
pub refused-front : (n : ℕ) (t : List ℕ) → run 0 start (take n t) ≡ None → run 0 start t ≡ None
refused-front n t h = run-cut n t ∙ ap (option_and_then (λ next. run (0 + length (take n t)) next (drop n t))) h

-- each front of a text that is taken is taken
pub run-front : (n : ℕ) (t : List ℕ) (z : MachineState) → run 0 start t ≡ Some z → (y : MachineState) × (run 0 start (take n t) ≡ Some y)
run-front n t z h =
    option_and_then_some (λ next. run (0 + length (take n t)) next (drop n t)) (run 0 start (take n t)) z
    (sym (run-cut n t) ∙ h) (λ y e f. (y, e))

-- the collection of a text that is taken to a state
pub collection-run : (t : List ℕ) (z : MachineState) → run 0 start t ≡ Some z → collection_of t ≡ accepted z
unfolding collection_of
collection-run t z h = ap (option_and_then accepted) h
