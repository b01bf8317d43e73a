use Rattle.std.proofs.Common.{arith}
use Rattle.sgf_lines.proofs.PieceTexts.{count_seen}
use Rattle.sgf_lines.proofs.form.pieces.Pieces.count.Goals as goal

pub returns : goal.returns
returns c = rw (← c.self.view_is) (omega (arith, c.len.ensures, c.self.inside.ends.ok.0, count_seen c.self.inside.ends.items c.self.inside.text.items c.self.invariant))
