-- The pieces are as they were, and the step's commands are begun.
use Rattle.sgf_lines.specs.inner.Scripting.{step_script}
use Rattle.sgf_lines.proofs.PieceTexts.{seen_pushed}
use Rattle.sgf_lines.proofs.form.pieces.Pieces.push_step.Goals as goal

pub invariant_of-self : goal.invariant_of-self
invariant_of-self c = rw c.in-Ok.ensures (seen_pushed c.self.inside.ends.items c.self.inside.text.items c.self.invariant (step_script c.args.grid.now c.args.step)).1

pub returns-in-Ok-clause-pushed : goal.returns-in-Ok-clause-pushed
returns-in-Ok-clause-pushed c = rw (c.in-Ok.ensures, ← c.self.view_is) (seen_pushed c.self.inside.ends.items c.self.inside.text.items c.self.invariant (step_script c.args.grid.now c.args.step)).0

pub returns-in-Err-clause-pushed : goal.returns-in-Err-clause-pushed
returns-in-Err-clause-pushed c = tt
