use Rattle.sgf_properties.proofs.Common.{◌≡◌, ℕ, List, ◌+◌, ◌∙◌, [], ◌∷◌, length, sym, ap, take_rest, arith, option_copied, IsPropValue, values_in, values_left}
use Rattle.sgf_properties.proofs.Iterating.{no-value, next-value}
use Rattle.sgf_properties.proofs.iter.ValuesIterator.next.Goals as goal
use Rattle.sgf_properties.proofs.iter.ValuesIterator.next.Goals.{In_default}

-- with no first one known, the values are those of the text that is left
shown : (c : In_default) → c.args.self.now ≡ values_in c.self.inside.rest.now
shown c = sym c.self.view_is ∙ ap (λ first. values_left (option_copied first) (values_in c.self.inside.rest.now)) c.in_default.is

pub returns-in_default-value_at-clause-steps : goal.returns-in_default-value_at-clause-steps
returns-in_default-value_at-clause-steps c =
    let none : c.args.self.now ≡ [] = shown (goal.at.returns-in_default-value_at-clause-steps c).In_default ∙ no-value c.self.invariant c.in_default-value_at.ensures in (none, none)

pub invariant_of-self-2 : goal.invariant_of-self-2
invariant_of-self-2 c = rw (take_rest c.self.inside.rest.now _) (next-value c.self.invariant c.in-Some-value_at.ensures.spelled).1

-- the first value of the text that is left is taken off
stepped : {value rest : List ℕ} (c : In_default) → IsPropValue value c.self.inside.rest.now rest → c.args.self.now ≡ value ∷ values_in rest
stepped c one = shown c ∙ (next-value c.self.invariant one).0

pub returns-clause-steps : goal.returns-clause-steps
returns-clause-steps c =
    rw (c.in_default.is, take_rest c.self.inside.rest.now _) (stepped (goal.at.returns-clause-steps c).In_default c.in-Some-value_at.ensures.spelled)

pub returns-clause-goes : goal.returns-clause-goes
returns-clause-goes c =
    let steps = ap length (stepped (goal.at.returns-clause-goes c).In_default c.in-Some-value_at.ensures.spelled) in
    rw (c.in_default.is, take_rest c.self.inside.rest.now _) record { on = λ _. (tt, tt, omega (arith, steps)); keeps = tt; rests = λ _. tt }
