use Rattle.std.proofs.Common.{sym, ◌∙◌}
use Rattle.go_board.proofs.EarlierLemmas.{length-earlier}
use Rattle.go_board.proofs.referee.Referee.depth.Goals as goal

pub returns-clause-value : goal.returns-clause-value
returns-clause-value g c =
    rw (← c.self.view_is) (c.len.ensures ∙ c.self.inside.earlier.ok.0 ∙ sym (length-earlier (g.P.Past.held c.self.inside.past) c.self.inside.turns c.self.inside.earlier.items))
