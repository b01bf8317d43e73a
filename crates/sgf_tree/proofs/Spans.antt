-- The machine over a span of a text, by the offsets of its bytes: white space, letters, the ordinary bytes of a value.
use Rattle.sgf_tree.proofs.Common.{◌≡◌, ℕ, zero, suc, ◌+◌, ◌-◌, ◌<◌, ◌≤◌, ◌⊎◌, IsTrue, List, [], ◌∷◌, ◌++◌, length, get_or, take, slice_range, filter, Some, subst, add-zero, append_assoc, append-nil, arith, rules, filter-append, Started, MachineState, start, in_name, next_state, run, is_white_space, is_upper, is_lower, lower-not_upper, span-none, span-more}
use Rattle.sgf_tree.proofs.Run.{run-take-step}

-- the state skips white space
abbrev pub Stays : MachineState → Type 0
Stays z = (b at : ℕ) → IsTrue (is_white_space b) → next_state at z b ≡ Some z

-- a letter, which goes on the name where it is an upper-case one
one-letter : (at : ℕ) (n : Started) (name : List ℕ) (b : ℕ) → IsTrue (is_upper b) ⊎ IsTrue (is_lower b)
    → next_state at (in_name n name) b ≡ Some (in_name n (name ++ filter is_upper (b ∷ [])))
unfolding next_state
one-letter at n name b h = search (rules, lower-not_upper, append-nil)

module _ (t : List ℕ) where
  -- each byte of the span takes the state of its offset to the next one's
  run-bytes : (at to n : ℕ) (f : ℕ → MachineState) → to ≤ length t → ((i : ℕ) → at ≤ i → i < to → next_state i (f i) (get_or t i 0) ≡ Some (f (i + 1)))
      → run 0 start (take at t) ≡ Some (f at) → at + n ≤ to → run 0 start (take (at + n) t) ≡ Some (f (at + n))
  run-bytes at to zero f within s h le = rw add-zero h
  run-bytes at to (suc n) f within s h le =
      let e : at + suc n ≡ at + n + 1 = omega arith in
      search (rules, run-take-step, (run-bytes at to n f within s h (omega arith)))

  pub run-span : (at to : ℕ) (f : ℕ → MachineState) → at ≤ to → to ≤ length t
      → ((i : ℕ) → at ≤ i → i < to → next_state i (f i) (get_or t i 0) ≡ Some (f (i + 1)))
      → run 0 start (take at t) ≡ Some (f at) → run 0 start (take to t) ≡ Some (f to)
  run-span at to f le within s h =
      subst (λ i. run 0 start (take i t) ≡ Some (f i)) (omega arith) (run-bytes at to (to - at) f within s h (omega arith))

  -- white space, where the state stays
  pub run-white : (at to : ℕ) (z : MachineState) → Stays z → at ≤ to → to ≤ length t
      → ((i : ℕ) → at ≤ i → i < to → IsTrue (is_white_space (get_or t i 0)))
      → run 0 start (take at t) ≡ Some z → run 0 start (take to t) ≡ Some z
  run-white at to z stays le within white h =
      run-span at to (λ i. z) le within (λ i low high. stays (get_or t i 0) i (white i low high)) h

  -- letters, of which the upper-case ones go on the name
  pub run-letters : (at to : ℕ) (n : Started) (name : List ℕ) → at ≤ to → to ≤ length t
      → ((i : ℕ) → at ≤ i → i < to → IsTrue (is_upper (get_or t i 0)) ⊎ IsTrue (is_lower (get_or t i 0)))
      → run 0 start (take at t) ≡ Some (in_name n name)
      → run 0 start (take to t) ≡ Some (in_name n (name ++ filter is_upper (slice_range t at to)))
  unfolding next_state
  run-letters at to n name le within letters h =
      run-span at to (λ i. in_name n (name ++ filter is_upper (slice_range t at i))) le within
      (λ i low high.
      rw (span-more t at i low (omega arith), filter-append is_upper (slice_range t at i) (get_or t i 0 ∷ []), ← append_assoc)
      (one-letter i n (name ++ filter is_upper (slice_range t at i)) (get_or t i 0) (letters i low high)))
      (rw (span-none t at, append-nil) h)
