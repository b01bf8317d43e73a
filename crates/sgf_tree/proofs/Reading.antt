-- How the machine reads the parts of a text, up to the properties of a node.
use Rattle.sgf_tree.proofs.Common.{◌≡◌, ℕ, ◌+◌, ◌-◌, Bool, List, [], ◌∷◌, ◌++◌, length, Option, Some, None, option_and_then, refl, ap, ◌∙◌, append_assoc, append-nil, arith, ne_eqb, rules, common_steps, IsValue, no_unit, ordinary, escaped, Stack, Started, MachineState, start, in_name, after_name, in_value, after_value, property_of, new_node, next_state, run, WhiteSpace, no_white_space, white_space, Letters, no_letter, upper, lower, prop_value, ArePropValues, no_value, value, Property, values, white-not_upper, white-not_lower, lower-not_upper}
use Rattle.sgf_tree.proofs.Spans.{Stays}
use Rattle.sgf_tree.proofs.Completion.{with_values}

-- the machine over what is left of a text of `whole` bytes
unfoldable pub read : ℕ → MachineState → List ℕ → Option MachineState
read whole z [] = Some z
read whole z (b ∷ t) = option_and_then (λ y. read whole y t) (next_state (whole - length (b ∷ t)) z b)

run-read : (whole at : ℕ) (z : MachineState) (t : List ℕ) → at + length t ≡ whole → run at z t ≡ read whole z t
unfolding run read
run-read whole at z [] e = refl
run-read whole at z (b ∷ t) e =
    let f : whole - length (b ∷ t) ≡ at = omega arith in
    rw f (elim (next_state at z b) as (λ o. option_and_then (λ next. run (at + 1) next t) o ≡ option_and_then (λ y. read whole y t) o) [
      | None ↦ refl
      | Some y ↦ run-read whole (at + 1) y t (omega arith)
    ])

-- a text as a whole
pub run-whole : (t : List ℕ) → run 0 start t ≡ read (length t) start t
run-whole t = run-read (length t) 0 start t (omega arith)

module _ (whole : ℕ) where
  -- one byte
  pub one-byte : (z y : MachineState) (b : ℕ) (t : List ℕ) → ((at : ℕ) → next_state at z b ≡ Some y) → read whole z (b ∷ t) ≡ read whole y t
  unfolding read
  one-byte z y b t e = ap (option_and_then (λ x. read whole x t)) (e (whole - length (b ∷ t)))

  -- the `;` of a node, with its place
  pub one-node : (z : MachineState) (k : Stack) (opens : Bool) (place : ℕ) (t : List ℕ) → place + length (59 ∷ t) ≡ whole
      → ((at : ℕ) → next_state at z 59 ≡ Some (new_node k opens at)) → read whole z (59 ∷ t) ≡ read whole (new_node k opens place) t
  unfolding read
  one-node z k opens place t f e = grind (arith, common_steps, option_and_then)

  -- white space, where the state stays
  pub over-white : {s r : List ℕ} (z : MachineState) → Stays z → WhiteSpace s r → read whole z s ≡ read whole z r
  over-white z h no_white_space = refl
  over-white z h (white_space {b} {s} i w) = one-byte z z b s (λ at. h b at i) ∙ over-white z h w

  -- a value after its `[`
  pub over-units : {v t r : List ℕ} (n : Started) (name : List ℕ) (before : List (List ℕ)) (so_far : List ℕ) → IsValue v t r
      → read whole (in_value n name before so_far) t ≡ read whole (in_value n name before (so_far ++ v)) r
  unfolding read next_state
  over-units n name before so_far no_unit = rw append-nil
  over-units n name before so_far (ordinary {b} {s} x y u) =
      one-byte (in_value n name before so_far) (in_value n name before (so_far ++ b ∷ [])) b s (λ at. search (rules, ne_eqb))
      ∙ rw append_assoc at (over-units n name before (so_far ++ b ∷ []) u)
  over-units n name before so_far (escaped {b} u) = rw append_assoc at (over-units n name before (so_far ++ 92 ∷ b ∷ []) u)

  pub over-values : {vs : List (List ℕ)} {t r : List ℕ} (n : Started) (p : Property) → ArePropValues vs t r
      → read whole (after_value n p) t ≡ read whole (after_value n (with_values p vs)) r
  unfolding read next_state
  over-values n p no_value = rw append-nil
  over-values n p (value (prop_value {value = v} w u) are) =
      over-white (after_value n p) (λ b at h. rw h) w
      ∙ over-units n p.name (values p) [] u
      ∙ rw append_assoc at (over-values n (property_of p.name (values p) v) are)

  pub over-letters : {more t r : List ℕ} (n : Started) (name : List ℕ) → Letters more t r
      → read whole (in_name n name) t ≡ read whole (in_name n (name ++ more)) r
  unfolding next_state
  over-letters n name no_letter = rw append-nil
  over-letters n name (upper {b} {s} h l) = search (rules, one-byte, append_assoc, (over-letters n (name ++ b ∷ []) l))
  over-letters n name (lower {b} {s} h l) = search (rules, one-byte, lower-not_upper, (over-letters n name l))

  -- after a name, up to the first value
  pub to-value : {s t : List ℕ} (n : Started) (name : List ℕ) → WhiteSpace s (91 ∷ t)
      → read whole (in_name n name) s ≡ read whole (in_value n name [] []) t
  unfolding read next_state
  to-value n name no_white_space = refl
  to-value n name (white_space {b} {s} h w) =
      one-byte (in_name n name) (after_name n name) b s (λ at. rw (white-not_upper b h, white-not_lower b h, h))
      ∙ over-white (after_name n name) (λ b at h. rw h) w
