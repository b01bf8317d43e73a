-- The whole of what was begun is a piece.
use Rattle.sgf_lines.proofs.Common.{arith, common_steps}
use Rattle.sgf_lines.proofs.PieceTexts.{seen_closed}
use Rattle.sgf_lines.proofs.form.pieces.Pieces.close.Goals as goal

pub invariant_of-self-2 : goal.invariant_of-self-2
invariant_of-self-2 c = rw c.in_ok-push.ensures.items (seen_closed c.self.inside.ends.items c.self.inside.text.items c.self.invariant c.len.result (omega (arith, c.len.ensures, c.self.inside.text.ok.0))).1

pub returns-clause-closed : goal.returns-clause-closed
returns-clause-closed c = grind (arith, common_steps, seen_closed)
