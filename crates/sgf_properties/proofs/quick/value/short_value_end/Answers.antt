use Rattle.std.proofs.Common.{rules}
use Rattle.sgf_properties.proofs.quick.value.short_value_end.Goals as goal

pub returns : goal.returns
returns c = search rules
