use Rattle.tree_lines.proofs.Common.{◌≡◌, ◌∙◌, ap, arith, refl, advanced, common_steps}
use Rattle.tree_lines.proofs.cursor.Cursor.next.Goals as goal

pub invariant_of-self : goal.invariant_of-self
invariant_of-self c = c.in_err-reserve.ensures.items ∙ c.self.invariant

pub invariant_of-self-in_default : goal.invariant_of-self-in_default
invariant_of-self-in_default c =
    let same : c.advance.new.self ≡ c.self.inside.sequences = rw c.in_default.is at c.in_ok-shared.ensures.moved in
    rw same (c.in_ok-reserve.ensures.items ∙ c.self.invariant)

pub returns : goal.returns
returns c =
    let moved = (rw c.in-Some.is at c.in_ok-shared.ensures.moved) ∙ ap advanced c.self.view_is in
    ((refl, λ _. tt, moved), record { goes_on = tt; line = grind (arith, common_steps) })
