use Rattle.board_points.proofs.Common.{ap, ◌∙◌, is_set}
use Rattle.board_points.proofs.MarkingLemmas.{is_set-none}
use Rattle.board_points.proofs.rows.remove_all.Goals as goal

pub returns : goal.returns
returns c = record { all = c.fill.ensures.len; none = λ p. ap (λ l. is_set l p) (c.fill.ensures.after (λ y is. is)) ∙ is_set-none _ p }
