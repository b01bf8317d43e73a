use Rattle.board_past.proofs.Common.{◌≡◌, ◌*◌, ◌∙◌, length, ap, sym, subst, is_set, Grid, PastColourings, all_of, newest_grid, HasAllEmptied}
use Rattle.board_past.proofs.EmptiedLemmas.{history_all}
use Rattle.board_past.proofs.RepeatLemmas.{fresh_stone_put}
use Rattle.board_past.proofs.past.print_past.PrintPast.may_repeat.Goals as goal

pub returns : goal.returns
returns c = λ k cleared takes stays none.
    let rows = c.self.inside.emptied.rows in
    let all : length (newest_grid c.args.self.now).cells ≡ (newest_grid c.args.self.now).side * (newest_grid c.args.self.now).side =
    subst (λ (g : Grid). length g.cells ≡ g.side * g.side) (c.newest.ensures ∙ ap (λ (past : PastColourings). newest_grid past) c.self.view_is) c.has_all_cells.ensures.all in
    let kept = subst (λ (past : PastColourings). HasAllEmptied (is_set rows) (all_of past)) c.self.view_is (history_all rows _ _ c.self.invariant.emptied_in.history) in
    fresh_stone_put c.args.self.now k c.args.point cleared rows all c.requires.one_side kept (record { on_board = c.requires.on_board; empty = c.requires.empty; cleared = takes }) (sym c.has_point.ensures ∙ none) stays
