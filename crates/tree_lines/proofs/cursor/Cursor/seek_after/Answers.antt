-- The cursor by sequences was made of the same collection.
use Rattle.tree_lines.proofs.Common.{◌≡◌, ◌∙◌, ap, CursorState, SequencesState, err_from_is_err_and}
use Rattle.tree_lines.proofs.cursor.Cursor.seek_after.Goals as goal
use Rattle.tree_lines.proofs.cursor.Cursor.seek_after.Goals.{After-new-sequences}

games_are : (c : After-new-sequences) → c.new-sequences.result.at.games ≡ c.args.self.now.games
games_are c =
    ap (λ (s : SequencesState). s.at.games) c.new-sequences.ensures ∙ c.outline.ensures ∙ ap (λ (s : CursorState). s.games) c.self.view_is

pub returns-in_err-seek_after-clause-why : goal.returns-in_err-seek_after-clause-why
returns-in_err-seek_after-clause-why c =
    let fault = err_from_is_err_and c.from_residual.result c.from_residual.ensures.1 in
    rw (fault.1, fault.2) (rw (games_are (goal.at.returns-in_err-seek_after-clause-why c).After-new-sequences) at c.in_err-seek_after.ensures.why)

pub returns-clause-sought : goal.returns-clause-sought
returns-clause-sought c =
    let games = games_are (goal.at.returns-clause-sought c).After-new-sequences in
    let is = c.in_ok-seek_after.ensures.sought in record { index = is.index; line = rw games at is.line; new_is = rw games at is.new_is }
