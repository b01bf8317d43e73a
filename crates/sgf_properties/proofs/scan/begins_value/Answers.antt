use Rattle.sgf_properties.proofs.Common.{rules}
use Rattle.sgf_properties.proofs.scan.begins_value.Goals as goal

pub returns : goal.returns
returns c = search rules
