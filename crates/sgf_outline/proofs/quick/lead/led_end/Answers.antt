use Rattle.sgf_outline.proofs.Common.{◌<◌, length, arith, EndsNode}
use Rattle.sgf_outline.proofs.Leading.{others_nothing}
use Rattle.sgf_outline.proofs.quick.lead.led_end.Goals as goal

-- only there for speed
pub returns-then-text-lt65 : goal.returns-then-text-lt65
returns-then-text-lt65 c =
    let move = c.moves_in_place.ensures.first c.if-moves_in_place-ne63.false in
    let within : 6 < length c.args.text.now = omega (arith, c.moves_in_place.ensures.after c.if-moves_in_place-ne63.false) in
    let ends : EndsNode c.args.text.now 6 = record { within = within; above = c.if-text-gt32.true; below = c.if-text-lt65.true } in
    record { begins = move.begins; front = move.move; others = others_nothing c.args.names.now c.args.text.now ends }
