use Rattle.sgf_tree.proofs.Common.{refl, ◌+◌, sym, subst, arith, IsMoveNode}
use Rattle.sgf_tree.proofs.OwnRead.{move-ends, move-read}
use Rattle.sgf_tree.proofs.quick.nodes.near_nodes.Goals as goal

pub take_whole-requires-clause-read : goal.take_whole-requires-clause-read
take_whole-requires-clause-read g c =
    let moves = c.moves_in_place-in_place.ensures in
    let all = c.if-in_place-eq-TWO_MOVES.true in
    move-read _ c.args.before.end _ (moves.first (omega (arith, all))) (move-ends _ _ (moves.second all)) refl

pub take_whole-requires-then-in_place-eq-TWO_MOVES-clause-read : goal.take_whole-requires-then-in_place-eq-TWO_MOVES-clause-read
take_whole-requires-then-in_place-eq-TWO_MOVES-clause-read g c =
    let moves = c.moves_in_place-in_place.ensures in
    let all = c.if-in_place-eq-TWO_MOVES.true in
    let first_end = c.in_ok-first.ensures.end in
    move-read _ c.in_ok-first.first.end (c.args.before.end + 12) (subst (IsMoveNode c.args.text.now) (sym first_end) (moves.second all)) (moves.ends all) (omega (arith, first_end))

pub take_whole-requires-then-in_place-eq-TWO_MOVES-clause-begins : goal.take_whole-requires-then-in_place-eq-TWO_MOVES-clause-begins
take_whole-requires-then-in_place-eq-TWO_MOVES-clause-begins g c =
    let from = c.requires in
    let read = c.in_ok-first.ensures.taken.more from.at from.stack from.read in
    let node = subst (IsMoveNode c.args.text.now) (sym c.in_ok-first.ensures.end) (c.moves_in_place-in_place.ensures.second c.if-in_place-eq-TWO_MOVES.true) in
    record { short = from.short; inside = omega (arith, node.move.value.within); begins = node.begins; at = from.at; stack = from.stack; read = read; few = from.few }

pub returns-then-in_place-eq-TWO_MOVES : goal.returns-then-in_place-eq-TWO_MOVES
returns-then-in_place-eq-TWO_MOVES g c =
    let one = c.in_ok-first.ensures.taken in
    let two = c.in_ok-second.ensures.taken in
    record { rises = omega (arith, one.rises, two.rises); more = λ at stack read. two.more at stack (one.more at stack read) }
