use Rattle.board_past.proofs.Common.{refl, ap, sym, ◌∙◌, has_unreaching, PastColourings, newest_grid}
use Rattle.board_past.proofs.past.print_past.PrintPastPast.play.Goals as goal

pub play_in_doubt-requires-clause-stone : goal.play_in_doubt-requires-clause-stone
play_in_doubt-requires-clause-stone c =
    let newest = c.newest-newest.ensures ∙ ap (λ (past : PastColourings). newest_grid past) c.self.view_is in
    record { on_board = c.requires.on_board; empty = c.requires.empty; settled = sym (ap has_unreaching newest) ∙ c.if-not-is_settled.ensures refl }

pub play_clearing-requires-clause-settled : goal.play_clearing-requires-clause-settled
play_clearing-requires-clause-settled c =
    let newest = c.newest-newest.ensures ∙ ap (λ (past : PastColourings). newest_grid past) c.self.view_is in
    sym (ap has_unreaching newest) ∙ c.if-not-is_settled.ensures refl
