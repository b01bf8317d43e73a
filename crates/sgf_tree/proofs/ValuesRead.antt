-- How the values of a property are read, one after another, and what the sgf form writes for them.
use Rattle.sgf_tree.proofs.Common.{common_steps, ◌≡◌, ℕ, ◌+◌, ◌<◌, ◌≤◌, List, [], ◌∷◌, ◌++◌, length, get_or, slice_range, refl, sym, ap, subst, ◌∙◌, arith, append_assoc, append-nil, rules, flat_map, flat_map-append, IsSpan, IsBracket, IsValueEnd, Started, in_value, after_value, property_of, next_state, is_white_space, Property, values, value_text, ComesTo, span-one, span-none, span-join}
use Rattle.sgf_tree.proofs.Run.{run-take-step}
use Rattle.sgf_tree.proofs.Spans.{run-white}
use Rattle.sgf_tree.proofs.ValueEnds.{units-read}

-- a property's values, with one more
property-values : (name : List ℕ) (before : List (List ℕ)) (value : List ℕ) → (values (property_of name before value) ≡ before ++ value ∷ []) × ((property_of name before value).name ≡ name)
property-values name [] value = (refl, refl)
property-values name (first ∷ rest) value = (refl, refl)

-- what was written before, and then the text between two offsets
abbrev pub After : (List ℕ → Type 0) → List ℕ → ℕ → ℕ → List ℕ → Type 0
After Wrote text from to written = (before : List ℕ) × Wrote before × (before ++ slice_range text from to ≡ written)

module _ (Wrote : List ℕ → Type 0) (t : List ℕ) where
  pub after-none : (at : ℕ) (written : List ℕ) → Wrote written → After Wrote t at at written
  after-none at written wrote = (written, wrote, ap (λ s. written ++ s) (span-none t at) ∙ append-nil written)

  after-more : (from a b : ℕ) → from ≤ a → a ≤ b → (written : List ℕ) → After Wrote t from a written → After Wrote t from b (written ++ slice_range t a b)
  after-more from a b le le' written (before, wrote, are) = search (rules, span-join, append_assoc, slice_range)

module _ (t : List ℕ) where
  -- a value, as the sgf form writes it
  value-stands : (at end : ℕ) → IsBracket t at → IsValueEnd t (at + 1) end → slice_range t at (end + 1) ≡ value_text (slice_range t (at + 1) end)
  value-stands at end stands value =
      let rises : at + 1 ≤ end = value.rises in
      grind (arith, common_steps, span-join t at end (end + 1), span-join t at (at + 1) end, span-one)

  -- values were read, and a `[` stands at `at`
  pub record ValuesSoFar (Wrote : List ℕ → Type 0) (bracket at : ℕ) : Type 0 where
    pub rises : bracket ≤ at
    pub reached : (n : Started) (name : List ℕ) → ComesTo t (bracket + 1) (in_value n name [] [])
        → (before : List (List ℕ)) × ComesTo t (at + 1) (in_value n name before []) × Wrote (flat_map value_text before)

  -- a value after them, and the white space there
  pub record ValuesBefore (Wrote : List ℕ → Type 0) (bracket at : ℕ) : Type 0 where
    pub rises : bracket < at
    pub reached : (n : Started) (name : List ℕ) → ComesTo t (bracket + 1) (in_value n name [] [])
        → (p : Property) × ComesTo t at (after_value n p) × (p.name ≡ name) × Wrote (flat_map value_text (values p))

  pub values-begin : (Wrote : List ℕ → Type 0) (bracket : ℕ) → Wrote [] → ValuesSoFar Wrote bracket bracket
  values-begin Wrote bracket none = record { rises = omega arith; reached = λ n name h. ([], h, none) }

  pub values-as : (Wrote Other : List ℕ → Type 0) (bracket at : ℕ) → ((written : List ℕ) → Wrote written → Other written) → ValuesSoFar Wrote bracket at → ValuesSoFar Other bracket at
  values-as Wrote Other bracket at to so_far = search rules

  pub values-step : (Wrote : List ℕ → Type 0) (from bracket at end next : ℕ) → ValuesSoFar (After Wrote t from at) bracket at → from ≤ at → IsBracket t at → IsValueEnd t (at + 1) end
      → IsSpan is_white_space t (end + 1) next → ValuesBefore (After Wrote t from (end + 1)) bracket next
  unfolding next_state
  values-step Wrote from bracket at end next so_far low stands is_end white =
      record {
        rises = omega (arith, so_far.rises, is_end.rises, white.rises);
        reached = λ n name h.
            let (before, there, wrote) = so_far.reached n name h in
            let raw : List ℕ = slice_range t (at + 1) end in
            let p : Property = property_of name before raw in
            let value : ComesTo t end (in_value n name before raw) =
            units-read t (at + 1) end is_end.rises (omega (arith, is_end.within)) is_end.spelled n name before there in
            let closed : ComesTo t (end + 1) (after_value n p) = run-take-step t end (in_value n name before raw) (after_value n p) value is_end.within (rw is_end.bracket) in
            let (more, named) = property-values name before raw in
            let texts : flat_map value_text before ++ slice_range t at (end + 1) ≡ flat_map value_text (values p) =
            grind (arith, common_steps, value-stands at end stands is_end, append-nil (value_text raw), flat_map-append value_text before (raw ∷ [])) in (
              p,
              run-white t (end + 1) next (after_value n p) (λ b at h. rw h) white.rises white.within white.passing closed,
              named,
              subst (After Wrote t from (end + 1)) texts (after-more Wrote t from at (end + 1) low (omega (arith, is_end.rises)) (flat_map value_text before) wrote),
            );
      }

  -- one more value follows
  pub values-more : (Wrote : List ℕ → Type 0) (bracket at : ℕ) → ValuesBefore Wrote bracket at → at < length t → get_or t at 0 ≡ 91 → ValuesSoFar Wrote bracket at
  unfolding next_state
  values-more Wrote bracket at before lt e =
      record {
        rises = omega (arith, before.rises);
        reached = λ n name h.
            let (p, there, named, wrote) = before.reached n name h in (
              values p,
              subst (λ m. ComesTo t (at + 1) (in_value n m (values p) [])) named (run-take-step t at (after_value n p) (in_value n p.name (values p) []) there lt (rw e)),
              wrote,
            );
      }
