-- A property with one value, as the code tells it.
use Rattle.sgf_tree.proofs.Common.{◌≡◌, ◌≢◌, ℕ, ◌+◌, ◌<◌, ◌≤◌, Bool, false, IsTrue, List, [], ◌∷◌, ◌++◌, length, get_or, slice_range, refl, sym, ap, subst, ◌∙◌, arith, append-nil, rules, flat_map, ne_eqb, or_left, common_steps, flat_map-append, is_letter, IsSpan, IsBracket, IsValueEnd, Started, in_node, IsMove, EndsNode, IsShortProperty, is_white_space, is_upper, is_lower, Property, property_text, ComesTo, AreValuesEnded, StandsIn, IsNameRead, IsPropertyRead, ArePropertiesRead, with_properties, next_state, accepted, after_value, bracket-here, span-none, span-join, upper-range, between-not_upper, upper-not_white_space, upper-not_bracket}
use Rattle.sgf_tree.proofs.NameEnds.{name-read, capitals-are}
use Rattle.sgf_tree.proofs.NodeEnds.{StandsInNode, node-done, node-name}
use Rattle.sgf_outline.proofs.LoneNodes.{nothing-skipped}
use Rattle.sgf_outline.proofs.ShortBytes.{two-name, two-letters, two-value}
use Rattle.sgf_tree.proofs.Spans.{run-white}
use Rattle.sgf_properties.proofs.ValueUnits.{no-units, ordinary-units, units-ended}
use Rattle.sgf_tree.proofs.ValuesRead.{After, ValuesBefore, after-none, values-begin, values-step}

-- two parts side by side
pub stands-join : (t : List ℕ) (from between to : ℕ) → from ≤ between → between ≤ to → (u v : List ℕ) → StandsIn t from between u → StandsIn t between to v → StandsIn t from to (u ++ v)
stands-join t from between to le le' u v first next =
    sym (span-join t from between to le le') ∙ ap (λ s. s ++ slice_range t between to) first ∙ ap (λ s. u ++ s) next

-- a name and its values, and what the sgf form writes for them
pub property-read : (Named Valued Wrote : List ℕ → Type 0) (t : List ℕ) (start bracket text_end end : ℕ) → IsNameRead Named t start bracket → ValuesBefore t Valued bracket end
    → bracket < text_end → IsSpan is_white_space t text_end end → (end < length t → get_or t end 0 ≢ 91)
    → ((u v : List ℕ) → Named u → Valued v → Wrote (u ++ v)) → IsPropertyRead Wrote t start text_end end
property-read Named Valued Wrote t start bracket text_end end name_read values_read some white other join = search rules

pub short-property : (t : List ℕ) (start bracket close next : ℕ) → start < length t → IsTrue (is_upper (get_or t start 0)) → IsSpan is_letter t start bracket
    → IsSpan is_upper t start bracket → IsBracket t bracket → IsValueEnd t (bracket + 1) close → AreValuesEnded t (close + 1) next
    → IsPropertyRead (StandsIn t start (close + 1)) t start (close + 1) next
short-property t start bracket close next lt capital letters capitals stands value ended =
    let None : List ℕ → Type 0 = λ w. w ≡ [] in
    let name = name-read (StandsIn t start bracket) t start bracket bracket lt capital letters (bracket-here t bracket stands) stands (capitals-are t start bracket capitals) in
    let values = values-step t None bracket bracket bracket close next (values-begin t (After None t bracket bracket) bracket (after-none None t bracket [] refl)) (omega arith) stands value ended.white_space in
    property-read (StandsIn t start bracket) (After None t bracket (close + 1)) (StandsIn t start (close + 1)) t start bracket (close + 1) next name values (omega (arith, value.rises)) ended.white_space (λ _. ended.other)
    (λ u v named (none, is, are). stands-join t start bracket (close + 1) capitals.rises (omega (arith, value.rises)) u v named (ap (λ s. s ++ slice_range t bracket (close + 1)) (sym is) ∙ are))

-- a property of two capitals and one value of ordinary bytes
module _ (t : List ℕ) (at close : ℕ) (is : IsShortProperty t at close) where
  two-whole : (next : ℕ) → AreValuesEnded t (close + 1) next → IsPropertyRead (StandsIn t at (close + 1)) t at (close + 1) next
  two-whole next ended =
      short-property t at (at + 2) close next (omega (arith, is.within)) is.first (two-letters t at close is)
      (two-name t at close is is_upper is.first is.second refl) (record { within = omega (arith, is.within); bracket = is.bracket }) (two-value t at close is) ended

-- a byte above the space that is no `[` ends a property's values at once
ended-at : (t : List ℕ) (end : ℕ) → end < length t → 32 < get_or t end 0 → get_or t end 0 ≢ 91 → AreValuesEnded t end end
ended-at t end lt above other = record { white_space = nothing-skipped t end lt above; other = other }

-- The properties of a node were read so far, and the text of the last one up to `text_end`.
pub record ReadSoFar (Wrote : List ℕ → Type 0) (t : List ℕ) (at text_end end : ℕ) : Type 0 where
  pub rises : at ≤ text_end
  pub white_space : IsSpan is_white_space t text_end end
  pub reached : (n : Started) → n.properties ≡ [] → ComesTo t at (in_node n) → (ps : List Property) × StandsInNode t end (with_properties n ps) × Wrote (flat_map property_text ps)

module _ (t : List ℕ) (at : ℕ) where
  -- none yet
  pub so-far-begin : (Wrote : List ℕ → Type 0) (end : ℕ) → IsSpan is_white_space t at end → Wrote [] → ReadSoFar Wrote t at at end
  unfolding next_state accepted
  so-far-begin Wrote end white wrote =
      record {
        rises = omega arith;
        white_space = white;
        reached = λ n none h. (
          [],
          subst (StandsInNode t end) (ap (with_properties n) none) (record {
            state = in_node n;
            reached = run-white t at end (in_node n) (λ b at h. rw h) white.rises white.within white.passing h;
            name = λ b capital. rw (upper-not_white_space b capital, capital);
            next = λ lt other small. rw (other, small);
            unaccepted = refl;
          }),
          wrote,
        );
      }

  -- one more property
  pub so-far-more : (Wrote Next All : List ℕ → Type 0) (text_end end next_text next : ℕ) → ReadSoFar Wrote t at text_end end → end < length t → IsTrue (is_upper (get_or t end 0))
      → IsPropertyRead Next t end next_text next → ((u v : List ℕ) → Wrote u → Next v → All (u ++ v)) → ReadSoFar All t at next_text next
  unfolding next_state accepted
  so-far-more Wrote Next All text_end end next_text next so_far lt capital property join =
      record {
        rises = omega (arith, so_far.rises, so_far.white_space.rises, property.rises);
        white_space = property.white_space;
        reached = λ n none h.
            let (ps, stands, wrote) = so_far.reached n none h in
            let done : Started = with_properties n ps in
            let (p, after, last) = property.reached done (node-name t end done stands lt capital) in
            let texts : flat_map property_text ps ++ property_text p ≡ flat_map property_text (ps ++ p ∷ []) =
            grind (arith, common_steps, append-nil (property_text p), flat_map-append property_text ps (p ∷ [])) in (
              ps ++ p ∷ [],
              record {
                state = after_value done p;
                reached = after;
                name = λ b capital. rw (upper-not_white_space b capital, upper-not_bracket b capital, capital);
                next = λ lt other small. rw (other, ne_eqb (get_or t next 0) 91 (property.no_value lt), small);
                unaccepted = refl;
              },
              subst All texts (join (flat_map property_text ps) (property_text p) wrote last),
            );
      }

  pub so-far-done : (Wrote : List ℕ → Type 0) (text_end end : ℕ) → ReadSoFar Wrote t at text_end end → (end < length t → is_upper (get_or t end 0) ≡ false)
      → ArePropertiesRead Wrote t at text_end end
  so-far-done Wrote text_end end so_far no_property = search (rules, node-done)

-- The properties of a node were read up to a `]` just before `end`: whatever white space follows there, all before it is read.
abbrev pub AreReadTo : List ℕ → ℕ → ℕ → Type 0
AreReadTo t at end = (next : ℕ) → AreValuesEnded t end next → ReadSoFar (StandsIn t at end) t at end next

module _ (t : List ℕ) (at end : ℕ) (so_far : AreReadTo t at end) where
  -- one more short property
  pub read-to-more : (close : ℕ) → IsShortProperty t end close → AreReadTo t at (close + 1)
  read-to-more close is next ended =
      let letter = upper-range (get_or t end 0) is.first in
      let lt : end < length t = omega (arith, is.ordinary.rises, is.within) in
      let here = so_far end (ended-at t end lt (omega (arith, letter.0)) (λ e. omega (arith, letter.1))) in
      so-far-more t at (StandsIn t at end) (StandsIn t end (close + 1)) (StandsIn t at (close + 1)) end end (close + 1) next here lt is.first (two-whole t end close is next ended)
      (stands-join t at end (close + 1) here.rises (omega (arith, is.ordinary.rises)))

  -- the node ends
  pub read-to-end : EndsNode t end → ArePropertiesRead (StandsIn t at end) t at end end
  read-to-end ends =
      so-far-done t at (StandsIn t at end) end end (so_far end (ended-at t end ends.within ends.above (λ e. omega (arith, ends.below)))) (λ lt. between-not_upper (get_or t end 0) ends.below)

-- no properties before the end of a node
pub none-read : (t : List ℕ) (at : ℕ) → EndsNode t at → ArePropertiesRead (StandsIn t at at) t at at at
none-read t at ends =
    so-far-done t at (StandsIn t at at) at at (so-far-begin t at (StandsIn t at at) at (nothing-skipped t at ends.within ends.above) (span-none t at)) (λ lt. between-not_upper (get_or t at 0) ends.below)

-- a move in front of a node's properties
module _ (t : List ℕ) (at : ℕ) (is : IsMove t at) where
  move-name : (test : ℕ → Bool) → IsTrue (test (get_or t at 0)) → test 91 ≡ false → IsSpan test t at (at + 1)
  move-name test first other = grind (arith, common_steps)

  move-value : IsValueEnd t (at + 1 + 1) (at + 4)
  move-value =
      let two : at + 1 + 1 ≡ at + 2 = omega arith in
      let four : at + 4 ≡ at + 2 + 2 = omega arith in
      rw (two, four)
      (units-ended t (at + 2) (at + 2 + 2) (ordinary-units t (at + 2) (at + 2) (at + 2 + 2) (no-units t (at + 2)) is.value.ordinary) is.value.within is.value.bracket)

  move-whole : (next : ℕ) → AreValuesEnded t (at + 5) next → IsPropertyRead (StandsIn t at (at + 5)) t at (at + 5) next
  move-whole next ended =
      let five : at + 4 + 1 ≡ at + 5 = omega arith in
      subst (λ i. IsPropertyRead (StandsIn t at i) t at i next) five
      (short-property t at (at + 1) (at + 4) next (omega (arith, is.value.within)) is.capital (move-name is_letter (or_left (is_upper (get_or t at 0)) (is_lower (get_or t at 0)) is.capital) refl)
      (move-name is_upper is.capital refl) (record { within = omega (arith, is.value.within); bracket = is.bracket }) move-value (rw five ended))

  pub after-move : AreReadTo t at (at + 5)
  after-move next ended =
      let letter = upper-range (get_or t at 0) is.capital in
      let lt : at < length t = omega (arith, is.value.within) in
      so-far-more t at (StandsIn t at at) (StandsIn t at (at + 5)) (StandsIn t at (at + 5)) at at (at + 5) next
      (so-far-begin t at (StandsIn t at at) at (nothing-skipped t at lt (omega (arith, letter.0))) (span-none t at)) lt is.capital
      (move-whole next ended) (stands-join t at at (at + 5) (omega arith) (omega arith))

  -- and nothing after it
  pub lone-read : EndsNode t (at + 5) → ArePropertiesRead (StandsIn t at (at + 5)) t at (at + 5) (at + 5)
  lone-read ends = read-to-end t at (at + 5) after-move ends
