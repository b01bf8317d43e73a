use Rattle.std.proofs.Common.{rules}
use Rattle.sgf_properties.proofs.property.PropRef.iter.Goals as goal

pub returns : goal.returns
returns c = search rules
