-- A list that goes on after another, and after that.
use Rattle.std.proofs.Common.{ℕ, List, ◌++◌, ap, ◌∙◌, append_assoc}
use Rattle.sgf_properties.specs.Written.{GoesOn}

pub goes_on_on : (a b c : List ℕ) → GoesOn a b → GoesOn b c → GoesOn a c
goes_on_on a b c (more, is) (further, then) = (more ++ further, then ∙ ap (λ s. s ++ further) is ∙ append_assoc a more further)
