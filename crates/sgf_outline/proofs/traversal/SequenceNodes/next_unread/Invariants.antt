-- The nodes stay while properties are taken off.
use Rattle.std.proofs.Common.{◌≡◌, length}
use Rattle.sgf_outline.proofs.traversal.SequenceNodes.next_unread.Given as goal

abbrev pub invariant-left : goal.invariant-left
invariant-left l = l.self.nodes ≡ l.initial.self.nodes

abbrev pub decreases-left : goal.decreases-left
decreases-left l = length l.self.properties
