use Rattle.std.proofs.Common.{rules}
use Rattle.sgf_lines_c.proofs.asked.Asked.options.Goals as goal

-- written out though the prover needs no help: it then refuses a wrong body sooner
pub returns : goal.returns
returns c = search rules
