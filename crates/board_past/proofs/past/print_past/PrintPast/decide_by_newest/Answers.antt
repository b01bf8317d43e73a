use Rattle.board_past.proofs.Common.{◌≡◌, ◌↔◌, ◌∙◌, Bool, IfSome, IsTrue, Contains, ap, sym, subst, false≢true, play, Grid, IsMove, PastColourings, newest_grid, present_stretch}
use Rattle.board_past.proofs.past.print_past.PrintPast.decide_by_newest.Goals as goal

pub newest_steps_show_new-requires : goal.newest_steps_show_new-requires
newest_steps_show_new-requires c = record {
  stone = (c.args.colour, subst (λ (past : PastColourings). IsMove (newest_grid past) c.args.colour c.args.point c.args.cleared.now) (sym c.self.view_is) c.requires.stone);
}

pub returns-then-newest_steps_show_new : goal.returns-then-newest_steps_show_new
returns-then-newest_steps_show_new c =
    let k = c.args.colour in
    let p = c.args.point in
    let never = subst (λ (past : PastColourings). IsMove (newest_grid past) k p c.args.cleared.now → Contains (present_stretch past) (play (newest_grid past) k p) → ⊥) c.self.view_is
    (λ move. c.newest_steps_show_new.ensures k move c.if-newest_steps_show_new.true) in
    (λ is. absurd (false≢true is), λ has. absurd (never c.requires.stone has))

pub returns : goal.returns
returns c =
    let made : c.place_and_clear.new.self ≡ play (newest_grid c.args.self.now) c.args.colour c.args.point = c.place_and_clear.ensures ∙ ap (λ (g : Grid). play g c.args.colour c.args.point) (c.copy-made.ensures ∙ c.newest.ensures) in
    let told = subst (λ (past : PastColourings). IfSome c.look_back.result (λ (has : Bool). IsTrue has ↔ Contains (present_stretch past) c.place_and_clear.new.self)) c.self.view_is c.look_back.ensures in
    subst (λ (g : Grid). IfSome c.look_back.result (λ (has : Bool). IsTrue has ↔ Contains (present_stretch c.args.self.now) g)) made told
