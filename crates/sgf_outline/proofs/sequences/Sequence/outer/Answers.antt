use Rattle.sgf_outline.proofs.Common.{refl, ne_eqb}
use Rattle.sgf_outline.proofs.sequences.Sequence.outer.Goals as goal

pub returns-else-self-eq1 : goal.returns-else-self-eq1
returns-else-self-eq1 c = rw (ne_eqb _ _ c.if-self-eq1.false) refl
