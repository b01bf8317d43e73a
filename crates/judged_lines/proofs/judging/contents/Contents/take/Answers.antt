-- What the property holds is told after what was told.
use Rattle.judged_lines.proofs.Common.{◌≡◌, Some, sym, ap, ◌∙◌, flat_map, moves_in}
use Rattle.judged_lines.proofs.Gathered.{gathered_moves, gathered_stones, gathered_players, gathered_comment, gathered_nothing}
use Rattle.judged_lines.proofs.judging.contents.Contents.take.Goals as goal

pub returns-in-Some-Move : goal.returns-in-Some-Move
returns-in-Some-Move c = λ front h.
    let is = sym c.in-Some-Move.ensures ∙ ap Some c.in-Some-Move.field-0-is in
    gathered_moves c.args.size front c.args.operations.now.items c.args.self.now h c.args.property.now c.in-Some-Move.colour c.with_moves-self.result is
    (c.with_moves-self.ensures (flat_map moves_in front) h.moves_are)

pub returns-in_ok-good-in-Some-Stones : goal.returns-in_ok-good-in-Some-Stones
returns-in_ok-good-in-Some-Stones c = λ front h.
    let is = sym c.in-Some-Stones.ensures ∙ ap Some c.in-Some-Stones.field-0-is in
    rw (c.with_values-self.ensures, c.then_some.ensures) (gathered_stones c.args.size front c.args.operations.now.items c.args.self.now h c.args.property.now c.in-Some-Stones.cell c.push_rectangles.new.operations.items
    c.in_ok-good-in-Some-Stones.good is c.in_ok-good-in-Some-Stones.ensures)

pub returns-in-Some-Player : goal.returns-in-Some-Player
returns-in-Some-Player c = λ front h.
    let is = sym c.in-Some-Player.ensures ∙ ap Some c.in-Some-Player.field-0-is in
    rw c.with_values-self-in-Some-Player.ensures (gathered_players c.args.size front c.args.operations.now.items c.args.self.now h c.args.property.now c.last_player.result is c.last_player.ensures.last c.last_player.ensures.some)

pub returns-in-Some-Comment : goal.returns-in-Some-Comment
returns-in-Some-Comment c = λ front h.
    let is = sym c.in-Some-Comment.ensures ∙ ap Some c.in-Some-Comment.field-0-is in
    let first : c.args.property.now.first ≡ c.value.result.now = (let h = c.value.ensures in cc) in
    rw c.or-self.ensures (gathered_comment c.args.size front c.args.operations.now.items c.args.self.now h c.args.property.now c.value.result is first)

pub returns-in-None : goal.returns-in-None
returns-in-None c = λ front h. gathered_nothing c.args.size front c.args.operations.now.items c.args.self.now h c.args.property.now (sym c.in-None.ensures)
