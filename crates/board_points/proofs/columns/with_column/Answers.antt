use Rattle.board_points.proofs.Common.{sym, ap, ◌∙◌, ◌||◌, rules, or-false, has_bit}
use Rattle.board_points.proofs.columns.with_column.Goals as goal

pub returns-else-set-clause-there : goal.returns-else-set-clause-there
returns-else-set-clause-there c = sym (ap (λ b. has_bit c.args.word c.args.col || b) c.if-set.false ∙ or-false (has_bit c.args.word c.args.col))

pub returns-else-set-clause-elsewhere : goal.returns-else-set-clause-elsewhere
returns-else-set-clause-elsewhere c = search rules
