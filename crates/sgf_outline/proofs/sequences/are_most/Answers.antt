use Rattle.std.proofs.Common.{rules}
use Rattle.sgf_outline.proofs.sequences.are_most.Goals as goal

pub returns : goal.returns
returns c = search rules
