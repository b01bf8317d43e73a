use Rattle.std.proofs.Common.{sym, ◌∙◌}
use Rattle.sgf_lines.proofs.PieceTexts.{whole}
use Rattle.sgf_lines.proofs.form.pieces.Pieces.text.Goals as goal

pub returns : goal.returns
returns c = rw (← c.self.view_is) (c.deref.ensures.value ∙ sym (whole 0 c.self.inside.ends.items c.self.inside.text.items))
