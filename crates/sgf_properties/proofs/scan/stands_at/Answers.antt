use Rattle.std.proofs.Common.{rules}
use Rattle.sgf_properties.proofs.scan.stands_at.Goals as goal

pub returns-then-at-text-clause-stands : goal.returns-then-at-text-clause-stands
returns-then-at-text-clause-stands c = search rules

pub returns-then-at-text-clause-other : goal.returns-then-at-text-clause-other
returns-then-at-text-clause-other c = search rules
