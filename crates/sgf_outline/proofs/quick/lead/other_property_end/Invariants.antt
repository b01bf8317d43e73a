use Rattle.std.proofs.Common.{◌≢◌, ◌+◌, ◌∷◌, [], All, take, slice_index}
use Rattle.sgf_outline.proofs.quick.lead.other_property_end.Given as goal

abbrev pub invariant-loop-known : goal.invariant-loop-known
invariant-loop-known l = All (λ known. slice_index l.text l.start ∷ slice_index l.text (l.start + 1) ∷ [] ≢ known) (take l.known-index l.names)
