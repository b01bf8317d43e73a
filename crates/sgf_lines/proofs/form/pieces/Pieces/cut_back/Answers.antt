-- The text ends where the last of the pieces that are left ends.
use Rattle.sgf_lines.proofs.Common.{arith, common_steps}
use Rattle.sgf_lines.proofs.PieceTexts.{seen_cut}
use Rattle.sgf_lines.proofs.form.pieces.Pieces.cut_back.Goals as goal

pub invariant_of-self : goal.invariant_of-self
invariant_of-self c = grind (arith, common_steps, seen_cut)

pub returns : goal.returns
returns c = grind (arith, common_steps, seen_cut)
