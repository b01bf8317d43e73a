-- The pieces are as they were, and more is begun.
use Rattle.sgf_lines.proofs.PieceTexts.{seen_pushed}
use Rattle.sgf_lines.proofs.form.pieces.Pieces.push.Goals as goal

pub invariant_of-self-2 : goal.invariant_of-self-2
invariant_of-self-2 c = rw c.in_ok-extend_from_slice.ensures.items (seen_pushed c.self.inside.ends.items c.self.inside.text.items c.self.invariant c.args.bytes.now).1

pub returns-clause-pushed : goal.returns-clause-pushed
returns-clause-pushed c = rw (c.in_ok-extend_from_slice.ensures.items, ← c.self.view_is) (seen_pushed c.self.inside.ends.items c.self.inside.text.items c.self.invariant c.args.bytes.now).0
