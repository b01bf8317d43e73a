-- How the name of a property is read, up to the `[` after it.
use Rattle.sgf_tree.proofs.Common.{span-more, append-nil, ◌≡◌, ◌≢◌, ℕ, zero, suc, ◌+◌, ◌-◌, ◌<◌, ◌≤◌, false, inl, inr, IsTrue, List, [], ◌∷◌, ◌++◌, length, get_or, slice_range, Some, None, refl, sym, ap, subst, ◌∙◌, arith, if◌then◌else◌, ne_eqb, rules, cases_lt, or_cases, or_parts, common_steps, filter-append, is_letter, name_in, IsSpan, IsBracket, Started, MachineState, in_name, after_name, in_value, next_state, accepted, is_white_space, is_upper, IsFaultyAt, ComesTo, IsNameRead, white-not_upper, white-not_lower, span-none, span-join, span-one, name-longer, name-begins}
use Rattle.sgf_tree.proofs.Run.{run-take-step}
use Rattle.sgf_tree.proofs.Spans.{run-white, run-letters}
use Rattle.sgf_tree.proofs.ValueEnds.{stops-faulty}

name-reached : (t : List ℕ) (start end : ℕ) (n : Started) → start < length t → IsTrue (is_upper (get_or t start 0)) → IsSpan is_letter t start end
    → ComesTo t (start + 1) (in_name n (get_or t start 0 ∷ [])) → ComesTo t end (in_name n (name_in (slice_range t start end)))
name-reached t start end n lt capital letters h =
    let b : ℕ = get_or t start 0 in
    let longer : start < end = name-longer t start end lt capital letters in
    let parts : slice_range t start end ≡ (b ∷ []) ++ slice_range t (start + 1) end = name-begins t start end lt capital letters in
    search (rules, filter-append, run-letters, or_cases)

-- the state after a name and the white space there
pub record StandsAfterName (t : List ℕ) (at : ℕ) (n : Started) (name : List ℕ) : Type 0 where
  pub state : MachineState
  pub reached : ComesTo t at state
  pub bracket : next_state at state 91 ≡ Some (in_value n name [] [])
  pub refused : at < length t → get_or t at 0 ≢ 91 → next_state at state (get_or t at 0) ≡ None
  pub unaccepted : accepted state ≡ None

name-refused : (at : ℕ) (n : Started) (name : List ℕ) (b : ℕ) → is_letter b ≡ false → is_white_space b ≡ false → b ≢ 91 → next_state at (in_name n name) b ≡ None
unfolding next_state
name-refused at n name b letter white ne = grind (arith, common_steps, or_parts, ne_eqb)

pub name-after : (t : List ℕ) (start end at : ℕ) (n : Started) → start < length t → IsTrue (is_upper (get_or t start 0)) → IsSpan is_letter t start end → IsSpan is_white_space t end at
    → ComesTo t (start + 1) (in_name n (get_or t start 0 ∷ [])) → StandsAfterName t at n (name_in (slice_range t start end))
unfolding next_state accepted
name-after t start end at n inside capital letters white begins =
    let name : List ℕ = name_in (slice_range t start end) in
    let h : ComesTo t end (in_name n name) = name-reached t start end n inside capital letters begins in
    let low : end ≤ at = white.rises in
    elim (cases_lt end at) [
      | inl lt ↦
          let first : ComesTo t (end + 1) (after_name n name) = run-take-step t end (in_name n name) (after_name n name) h (omega arith)
          (let space = white.passing end (omega arith) lt in rw (white-not_upper (get_or t end 0) space, white-not_lower (get_or t end 0) space, space)) in
          record {
            state = after_name n name;
            reached = run-white t (end + 1) at (after_name n name) (λ b at h. rw h) (omega arith) white.within (λ i low high. white.passing i (omega arith) high) first;
            bracket = refl;
            refused = λ lt' ne. rw (white.stops lt', ne_eqb (get_or t at 0) 91 ne);
            unaccepted = refl;
          }
      | inr le ↦
          let same : end ≡ at = omega arith in
          record {
            state = in_name n name;
            reached = subst (λ i. ComesTo t i (in_name n name)) same h;
            bracket = refl;
            refused = λ lt' ne. name-refused at n name (get_or t at 0) (subst (λ i. is_letter (get_or t i 0) ≡ false) same (letters.stops (omega arith))) (white.stops lt') ne;
            unaccepted = refl;
          }
    ]

-- a name without a `[` after it
pub name-faulty : (t : List ℕ) (at : ℕ) (n : Started) (name : List ℕ) → StandsAfterName t at n name → at ≤ length t → (at < length t → get_or t at 0 ≢ 91) → IsFaultyAt t at
name-faulty t at n name after le other = stops-faulty t at after.state le after.reached after.unaccepted (λ lt. after.refused lt (other lt))

-- the `[`
name-value : (t : List ℕ) (at : ℕ) (n : Started) (name : List ℕ) → StandsAfterName t at n name → at < length t → get_or t at 0 ≡ 91 → ComesTo t (at + 1) (in_value n name [] [])
name-value t at n name after lt e = run-take-step t at after.state (in_value n name [] []) after.reached lt (rw e after.bracket)

pub name-read : (Wrote : List ℕ → Type 0) (t : List ℕ) (start end at : ℕ) → start < length t → IsTrue (is_upper (get_or t start 0)) → IsSpan is_letter t start end → IsSpan is_white_space t end at
    → IsBracket t at → Wrote (name_in (slice_range t start end)) → IsNameRead Wrote t start at
name-read Wrote t start end at inside capital letters white stands wrote =
    record {
      rises = omega (arith, white.rises, name-longer t start end inside capital letters);
      stands = stands;
      reached = search (rules, name-value, name-after);
    }

-- a letter of a name
pub name-capital : (t : List ℕ) (at : ℕ) → at < length t → IsTrue (is_upper (get_or t at 0)) → slice_range t at (at + 1) ≡ name_in (slice_range t at (at + 1))
name-capital t at lt capital = rw (span-one t at lt) (ap (λ c. if c then get_or t at 0 ∷ [] else []) (sym capital))

pub name-small : (t : List ℕ) (at : ℕ) → at < length t → is_upper (get_or t at 0) ≡ false → [] ≡ name_in (slice_range t at (at + 1))
name-small t at lt small = rw (span-one t at lt) (ap (λ c. if c then get_or t at 0 ∷ [] else []) (sym small))

pub name-join : (t : List ℕ) (from between to : ℕ) → from ≤ between → between ≤ to → name_in (slice_range t from between) ++ name_in (slice_range t between to) ≡ name_in (slice_range t from to)
name-join t from between to le le' =
    sym (filter-append is_upper (slice_range t from between) (slice_range t between to)) ∙ ap name_in (span-join t from between to le le')

-- capitals are the name that they spell
capitals-name : (t : List ℕ) (from n : ℕ) → from + n ≤ length t → ((i : ℕ) → from ≤ i → i < from + n → IsTrue (is_upper (get_or t i 0)))
    → name_in (slice_range t from (from + n)) ≡ slice_range t from (from + n)
capitals-name t from zero within capitals = let none : from + 0 ≡ from = omega arith in rw (none, span-none t from) refl
capitals-name t from (suc n) within capitals =
    let more : from + suc n ≡ from + n + 1 = omega arith in
    let before = capitals-name t from n (omega arith) (λ i low high. capitals i low (omega arith)) in
    let last = capitals (from + n) (omega arith) (omega arith) in
    rw more (grind (arith, common_steps, span-more t from (from + n), filter-append, append-nil))

pub capitals-are : (t : List ℕ) (from to : ℕ) → IsSpan is_upper t from to → slice_range t from to ≡ name_in (slice_range t from to)
capitals-are t from to run =
    let rises : from ≤ to = run.rises in
    let all : from + (to - from) ≡ to = omega arith in
    search (rules, slice_range, capitals-name)
