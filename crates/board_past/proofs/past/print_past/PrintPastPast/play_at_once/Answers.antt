use Rattle.board_past.proofs.Common.{◌<◌, [], length, refl, arith, IsMove, newest_grid, has_bit-zero}
use Rattle.board_past.proofs.AtOnceLemmas.{at_once_more, tabled_more_at_once, emptied_more_at_once}
use Rattle.board_past.proofs.RepeatLemmas.{never_back}
use Rattle.board_past.proofs.past.print_past.PrintPastPast.play_at_once.Goals as goal

pub invariant_of-self : goal.invariant_of-self
invariant_of-self c =
    let was = c.self.inside in
    let k = c.args.colour in
    let p = c.args.point in
    let low : length was.colourings.older < was.at_once_below = omega (arith, c.len.ensures, c.if-len-self.false) in
    let is = c.self.invariant.at_once in
    let move : IsMove (newest_grid was.colourings) k p [] = rw c.self.view_is (record { on_board = c.requires.on_board; empty = c.requires.empty; cleared = rw (← c.self.view_is, ← c.newest-newest.ensures) (c.if-not-clears_nothing_at_a_glance.ensures refl) }) in
    rw c.add_lone_stone.ensures (record {
      tabled = tabled_more_at_once was.colourings was.table was.emptied was.at_once_below k p low is _ c.self.invariant.tabled;
      emptied_in = emptied_more_at_once was.colourings was.table was.emptied was.at_once_below k p low is move c.self.invariant.emptied_in;
      at_once = at_once_more was.colourings was.table was.at_once_below k p is;
    })

pub add_lone_stone-requires-clause-known : goal.add_lone_stone-requires-clause-known
add_lone_stone-requires-clause-known c = record {
  settled = λ _. c.self.invariant.at_once.settled (omega (arith, c.if-len-self.false, c.len.ensures));
  fresh = λ _. rw c.self.view_is (c.may_repeat.ensures c.args.colour [] (rw (← c.self.view_is, ← c.newest-newest.ensures) (c.if-not-clears_nothing_at_a_glance.ensures refl)) (has_bit-zero c.args.point.col) (cc));
}

pub returns-clause-new : goal.returns-clause-new
returns-clause-new c = λ _. never_back c.args.self.now c.args.colour c.args.point (c.may_repeat.ensures c.args.colour [] (rw (← c.self.view_is, ← c.newest-newest.ensures) (c.if-not-clears_nothing_at_a_glance.ensures refl)) (has_bit-zero c.args.point.col) (cc))

pub add_lone_stone-requires-clause-stone : goal.add_lone_stone-requires-clause-stone
add_lone_stone-requires-clause-stone c =
    rw c.self.view_is (record { on_board = c.requires.on_board; empty = c.requires.empty; cleared = rw (← c.self.view_is, ← c.newest-newest.ensures) (c.if-not-clears_nothing_at_a_glance.ensures refl) })
