use Rattle.board_past.proofs.Common.{◌≡◌, Contains, false, ap, subst, sym, ◌∙◌, false≢true, has_unreaching, play, Grid, newest_grid, present_stretch, with_next, settled_by_play}
use Rattle.board_past.proofs.RepeatLemmas.{played_new, played_refused}
use Rattle.board_past.proofs.past.print_past.PrintPast.play_on_copy.Goals as goal
use Rattle.board_past.proofs.past.print_past.PrintPast.play_on_copy.Goals.{Else-holds}

pub set_settled-requires : goal.set_settled-requires
set_settled-requires c = λ _. ap has_unreaching c.place.ensures.value ∙ settled_by_play c.copy-made.result c.args.colour c.args.point

module _ (c : Else-holds) where
  pub made : c.set_settled.new.self ≡ play (newest_grid c.args.self.now) c.args.colour c.args.point
  made = c.set_settled.ensures ∙ c.place.ensures.value ∙ ap (λ (g : Grid). play g c.args.colour c.args.point) (c.copy-made.ensures ∙ c.newest.ensures)

  -- the stone brings no colouring back
  pub never : ¬ Contains (present_stretch c.args.self.now) (play (newest_grid c.args.self.now) c.args.colour c.args.point)
  never has = false≢true (sym c.if-holds.false ∙ c.holds.ensures.1 (subst (λ (g : Grid). Contains (present_stretch c.args.self.now) g) (sym made) has))

pub returns-in_err-add : goal.returns-in_err-add
returns-in_err-add c =
    played_refused c.args.colour c.args.point c.args.self.now c.add.new.self c.from_residual.result c.from_residual.ensures.0 (never (goal.at.returns-in_err-add c).Else-holds) c.in_err-add.ensures.err

pub returns : goal.returns
returns c =
    let w = (goal.at.returns c).Else-holds in
    played_new c.args.colour c.args.point c.args.self.now c.add.new.self (never w) (c.in_ok-add.ensures.ok ∙ ap (λ (g : Grid). with_next c.args.self.now g false) (made w))
