use Rattle.std.proofs.Common.{ap, slice_get, ◌∙◌, sym, ℕ, List, Bor}
use Rattle.sgf_properties.proofs.Taking.{taken-at}
use Rattle.sgf_properties.proofs.property.PropRef.value.Goals as goal

pub returns : goal.returns
returns c =
    ap (λ vs. slice_get vs c.args.i) (sym c.iter.ensures) ∙ taken-at (λ (v : Bor (List ℕ)). v.now) c.iter.result c.args.i c.nth.result c.nth.new.self c.unwrap.result c.nth.ensures.ran c.unwrap.ensures
