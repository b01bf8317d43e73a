-- No line ends before the first node.
use Rattle.tree_lines.proofs.Common.{ap, ◌∙◌, parts_of}
use Rattle.tree_lines.proofs.SequenceCursors.{seen, kept_first, seen_first}
use Rattle.tree_lines.proofs.sequence_cursor.SequenceCursor.new.Goals as goal

pub invariant_of-result : goal.invariant_of-result
invariant_of-result c = rw c.new.ensures.items (kept_first c.args.outline.now)

pub returns : goal.returns
returns c = ap (λ path. seen c.args.outline.now 0 (parts_of c.args.outline.now 0 path)) c.new.ensures.items ∙ seen_first c.args.outline.now
