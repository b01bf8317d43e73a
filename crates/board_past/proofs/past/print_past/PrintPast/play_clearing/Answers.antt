use Rattle.board_past.proofs.Common.{false, sym, ◌∙◌, or_parts, play, newest_grid, with_next, IsFreshStone}
use Rattle.board_past.proofs.RepeatLemmas.{never_back}
use Rattle.board_past.proofs.past.print_past.PrintPast.play_clearing.Goals as goal
use Rattle.board_past.proofs.past.print_past.PrintPast.play_clearing.Goals.{Else-may_repeat-has_point}

fresh : (c : Else-may_repeat-has_point) → IsFreshStone (with_next c.args.self.now (play (newest_grid c.args.self.now) c.args.colour c.args.point) false) c.args.point
fresh c =
    let stays = or_parts _ _ c.if-may_repeat-has_point.false in
    c.may_repeat.ensures c.args.colour c.args.cleared.now c.requires.stone.cleared (sym c.has_point.ensures ∙ stays.1) stays.0

pub play_new-requires-clause-never : goal.play_new-requires-clause-never
play_new-requires-clause-never c = never_back c.args.self.now c.args.colour c.args.point (fresh (goal.at.play_new-requires-clause-never c).Else-may_repeat-has_point)

pub play_new-requires-clause-known : goal.play_new-requires-clause-known
play_new-requires-clause-known c = record { settled = λ _. c.requires.settled; fresh = λ _. fresh (goal.at.play_new-requires-clause-known c).Else-may_repeat-has_point }
