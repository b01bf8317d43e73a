-- The units of a raw value, by the machine, and a text that ends too early or has a byte that is refused.
use Rattle.sgf_tree.proofs.Common.{rules, inl, inr, ◌≡◌, ℕ, ◌+◌, ◌<◌, ◌≤◌, List, [], ◌∷◌, ◌++◌, length, get_or, slice_range, Some, None, refl, sym, ap, subst, ◌∙◌, arith, ne_eqb, append_assoc, append-nil, take_all, cases_lt, common_steps, SpellsValue, IsUnended, in_units, in_escape, IsValue, no_unit, ordinary, escaped, Started, MachineState, start, in_value, after_escape, next_state, run, accepted, IsFaultyAt, ComesTo}
use Rattle.sgf_tree.proofs.Faults.{ended-fault, refused-fault}
use Rattle.sgf_tree.proofs.Run.{run-take-step, run-take-span}

-- the whole text is reached
pub reaches-all : (t : List ℕ) (z : MachineState) → ComesTo t (length t) z → run 0 start t ≡ Some z
reaches-all t z h = ap (run 0 start) (sym (take_all (length t) t (omega arith))) ∙ h

-- the text ends in a state where it may not end
pub ends-faulty : (t : List ℕ) (z : MachineState) → ComesTo t (length t) z → accepted z ≡ None → IsFaultyAt t (length t)
ends-faulty t z h a = grind (arith, common_steps, ended-fault, reaches-all)

-- a byte is refused
pub refused-faulty : (t : List ℕ) (at : ℕ) (z : MachineState) → at < length t → ComesTo t at z → next_state at z (get_or t at 0) ≡ None → IsFaultyAt t at
refused-faulty t at z lt h s = grind (arith, common_steps, refused-fault)

-- the byte at an offset is refused, or the text ends there and may not
pub stops-faulty : (t : List ℕ) (at : ℕ) (z : MachineState) → at ≤ length t → ComesTo t at z → accepted z ≡ None → (at < length t → next_state at z (get_or t at 0) ≡ None) → IsFaultyAt t at
stops-faulty t at z le reached a refused =
    elim (cases_lt at (length t)) [
      | inl lt ↦ refused-faulty t at z lt reached (refused lt)
      | inr ge ↦
          let same : length t ≡ at = omega arith in
          subst (IsFaultyAt t) same (ends-faulty t z (subst (λ i. ComesTo t i z) (sym same) reached) a)
    ]

-- the machine over the units of a value
run-units : {v s r : List ℕ} (at : ℕ) (n : Started) (name : List ℕ) (before : List (List ℕ)) (so_far : List ℕ) → IsValue v s r
    → run at (in_value n name before so_far) v ≡ Some (in_value n name before (so_far ++ v))
unfolding run next_state
run-units at n name before so_far no_unit = rw append-nil
run-units at n name before so_far (ordinary {b} x y u) = search (rules, ne_eqb, append_assoc, (run-units (at + 1) n name before (so_far ++ b ∷ []) u))
run-units at n name before so_far (escaped {b} u) = rw append_assoc at (run-units (at + 1 + 1) n name before (so_far ++ 92 ∷ b ∷ []) u)

pub units-read : (t : List ℕ) (at end : ℕ) → at ≤ end → end ≤ length t → SpellsValue t at end → (n : Started) (name : List ℕ) (before : List (List ℕ))
    → ComesTo t at (in_value n name before []) → ComesTo t end (in_value n name before (slice_range t at end))
units-read t at end low within spelled n name before from =
    run-take-span t at end (in_value n name before []) (in_value n name before (slice_range t at end)) low within from (run-units at n name before [] spelled)

-- a value that is unended
pub unended-fault : (t : List ℕ) (at : ℕ) → at ≤ length t → IsUnended t at → (n : Started) (name : List ℕ) (before : List (List ℕ)) → ComesTo t at (in_value n name before []) → IsFaultyAt t (length t)
unfolding accepted next_state
unended-fault t at within (in_units all) n name before h =
    ends-faulty t (in_value n name before (slice_range t at (length t))) (units-read t at (length t) within (omega arith) all n name before h) refl
unended-fault t at within (in_escape last rises next escape units) n name before h =
    let z : MachineState = after_escape n name before (slice_range t at last) in
    let units_are = units-read t at last rises (omega (arith, next)) units n name before h in
    ends-faulty t z (subst (λ i. ComesTo t i z) next (run-take-step t last (in_value n name before (slice_range t at last)) z units_are (omega arith) (rw escape))) refl
