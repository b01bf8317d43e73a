use Rattle.board_stones.proofs.Common.{ap, ◌∙◌, clear, play, opponent, Grid, with_cell}
use Rattle.board_stones.proofs.board.Board.place.Goals as goal

pub returns-clause-value : goal.returns-clause-value
unfolding play
returns-clause-value c =
    let put = c.set.ensures ∙ ap (with_cell c.args.self.now c.args.point) c.stone.ensures in
    let captured = c.clear.ensures.value ∙ ap (clear c.set.new.self) c.opponent.ensures ∙ ap (λ (g : Grid). clear g (opponent c.args.colour)) put in
    c.clear-2.ensures.value ∙ ap (λ (g : Grid). clear g c.args.colour) captured
