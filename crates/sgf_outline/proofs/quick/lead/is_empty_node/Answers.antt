use Rattle.sgf_outline.proofs.Common.{rules}
use Rattle.sgf_outline.proofs.quick.lead.is_empty_node.Goals as goal

-- only there for speed
pub returns-then-text-gt32 : goal.returns-then-text-gt32
returns-then-text-gt32 c = search rules
