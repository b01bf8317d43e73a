use Rattle.sgf_properties.proofs.Common.{rules}
use Rattle.sgf_properties.proofs.Spans.{empty-span}
use Rattle.sgf_properties.proofs.scan.skip_white_space.Goals as goal

-- only there for speed
pub returns-then-text-at-gt32 : goal.returns-then-text-at-gt32
returns-then-text-at-gt32 c = search (rules, empty-span)
