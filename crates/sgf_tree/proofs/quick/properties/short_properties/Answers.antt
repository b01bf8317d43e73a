use Rattle.sgf_tree.proofs.Common.{EndsNode}
use Rattle.sgf_tree.proofs.ShortProperties.{lone-read, none-read}
use Rattle.sgf_tree.proofs.quick.properties.short_properties.Goals as goal
use Rattle.sgf_tree.proofs.quick.properties.short_properties.Goals.{then-is_move, else-is_move}

pub returns-then-text-end-lt65 : goal.returns-then-text-end-lt65
returns-then-text-end-lt65 c =
    let t = c.args.text.now in
    let ends : EndsNode t c.if-is_move.end = record { within = c.if-end-text.true; above = c.if-text-end-gt32.true; below = c.if-text-end-lt65.true } in
    elim c.if-is_move.branch [
      | then-is_move w ↦ rw w.end-is (lone-read t c.args.at (c.requires.move_stands w.if-is_move.true) (rw w.end-is at ends))
      | else-is_move w ↦ rw w.end-is (none-read t c.args.at (rw w.end-is at ends))
    ]
