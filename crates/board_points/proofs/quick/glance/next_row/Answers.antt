use Rattle.board_points.proofs.Common.{sym, ◌∙◌, false≢true}
use Rattle.board_points.proofs.GlanceLemmas.{next_row, no_next_row}
use Rattle.board_points.proofs.quick.glance.next_row.Goals as goal

pub returns-then-there : goal.returns-then-there
returns-then-there c = λ row i at _. next_row c.args.own.now c.args.others.now row i c.args.next (at c.if-there.true) (c.requires.there c.if-there.true)

pub returns : goal.returns
returns c = λ row i _ none. no_next_row c.args.own.now c.args.others.now row i c.requires.rows.few (λ p at is. false≢true (sym (none c.if-there.false p at) ∙ is))
