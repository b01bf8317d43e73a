use Rattle.go_board.proofs.Common.{◌≤◌, length, reverse, length-reverse}
use Rattle.go_board.proofs.EarlierLemmas.{length-earlier}
use Rattle.go_board.proofs.referee.Referee.turns.Goals as goal

pub returns-clause-at_most : goal.returns-clause-at_most
returns-clause-at_most g c =
    let few : c.self.inside.turns ≤ length (reverse c.self.inside.earlier.items) = c.self.invariant.few_turns in
    rw (← c.self.view_is)
    (rw (length-earlier (g.P.Past.held c.self.inside.past) c.self.inside.turns c.self.inside.earlier.items) (rw length-reverse at few))
