use Rattle.std.proofs.Common.{◌≡◌, find, bytes_eq}
use Rattle.sgf_outline.proofs.node.NodeRef.first.Given as goal

abbrev pub invariant-loop-property : goal.invariant-loop-property
invariant-loop-property l = find (λ p. bytes_eq p.name l.name) l.self.properties ≡ find (λ p. bytes_eq p.name l.name) l.property-iterator
