use Rattle.sgf_properties.proofs.value.far_end.Goals as goal

pub kept_end-requires-clause-kept : goal.kept_end-requires-clause-kept
kept_end-requires-clause-kept c = rw c.deref.ensures.value (rw c.in-Some.is at c.requires.kept)
