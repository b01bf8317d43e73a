use Rattle.sgf_properties.proofs.Common.{Bor, ℕ, List, length, ap, ◌∙◌}
use Rattle.sgf_properties.proofs.Taking.{taken-all}
use Rattle.sgf_properties.proofs.property.PropRef.values.Goals as goal

pub returns : goal.returns
returns c =
    let (taken, (gone, (end, all, (none, done))), count) = c.count.ensures.ran in
    count ∙ taken-all (λ (v : Bor (List ℕ)). v.now) c.iter.result taken end all none ∙ ap length c.iter.ensures
