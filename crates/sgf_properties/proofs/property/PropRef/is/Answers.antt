use Rattle.std.proofs.Common.{rules}
use Rattle.sgf_properties.proofs.property.PropRef.is.Goals as goal

pub returns-then-is_short_name : goal.returns-then-is_short_name
returns-then-is_short_name c = search rules
