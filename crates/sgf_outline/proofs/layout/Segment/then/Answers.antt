use Rattle.std.proofs.Common.{rules}
use Rattle.sgf_outline.proofs.Copying.{goes-on}
use Rattle.sgf_outline.proofs.layout.Segment.then.Goals as goal

pub returns-then-self-from-clause-copied : goal.returns-then-self-from-clause-copied
returns-then-self-from-clause-copied g c text within k places first written is = search (rules, goes-on)
