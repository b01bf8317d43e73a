use Rattle.board_past.proofs.Common.{◌∙◌, subst, PastColourings, IsPlayed}
use Rattle.board_past.proofs.past.print_past.PrintPast.play_in_doubt.Goals as goal

pub returns-in-Some : goal.returns-in-Some
returns-in-Some c =
    subst (λ (past : PastColourings). IsPlayed c.args.colour c.args.point past c.play_clearing.new.self c.play_clearing.result) (c.find_cleared.ensures.unchanged ∙ c.self.view_is) c.play_clearing.ensures

pub returns-in-None : goal.returns-in-None
returns-in-None c =
    let done = c.play_clearing-in-None in
    subst (λ (past : PastColourings). IsPlayed c.args.colour c.args.point past done.new.self done.result) (c.find_cleared.ensures.unchanged ∙ c.self.view_is) done.ensures
