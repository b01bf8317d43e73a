use Rattle.board_past.proofs.Common.{common_steps, ◌≡◌, ◌+◌, ◌++◌, [], ◌∷◌, false, length, reverse, refl, ap, sym, subst, ◌∙◌, IsTrue, arith, rules, Fits-of_lt, has_unreaching, play, IsMove, Older, PastColourings, newest_grid, with_next, is_full, is_fresh, is_settled, IsFreshStone, IsPast, KeepRows, side_play}
use Rattle.board_past.proofs.ChangesLemmas.{play_cells}
use Rattle.board_past.proofs.ColouringsLemmas.{count-all, start_fits, past_held, room_for_all, grown}
use Rattle.board_past.proofs.past.print_past.colourings.Colourings.add_stone.Goals as goal
use Rattle.board_past.proofs.past.print_past.colourings.Colourings.add_stone.Goals.{After-push_reserved}

pub add_lone_stone-requires-clause-not_full : goal.add_lone_stone-requires-clause-not_full
add_lone_stone-requires-clause-not_full c =
    let was = c.self.inside in
    let count : c.len.result ≡ length c.args.self.now.older = omega (arith, c.len.ensures, count-all was.newest was.stretch_start was.older.items was.changes.items c.args.self.now c.self.view_is) in
    ap is_full (sym count) ∙ sym c.is_full-full.ensures ∙ c.if-not-full.true

pub overflow_cast-kept-2 : goal.overflow_cast-kept-2
overflow_cast-kept-2 c = Fits-of_lt (start_fits _ _ _ _ _ c.self.view_is c.self.invariant.0 c.requires.few)

-- what is kept, and what it tells
next : (c : After-push_reserved) → IsPast c.place_and_clear.new.self c.self.inside.stretch_start c.push_reserved.new.self.items c.keep_played.new.changes.items
    × (past_held c.place_and_clear.new.self c.self.inside.stretch_start (reverse c.push_reserved.new.self.items) c.keep_played.new.changes.items ≡ with_next c.args.self.now (play (newest_grid c.args.self.now) c.args.colour c.args.point) false)
next c =
    let was = c.self.inside in
    let k = c.args.colour in
    let p = c.args.point in
    let made = play was.newest k p in
    let kept : Older = record { start = c.len-2.result; stretch_start = was.stretch_start; point = p; alone = false; known = c.args.known } in
    let move = subst (λ (past : PastColourings). IsMove (newest_grid past) k p c.args.cleared.now) (sym c.self.view_is) c.requires.stone in
    let fresh : IsTrue (is_fresh kept.known) → IsFreshStone (with_next (past_held was.newest was.stretch_start (reverse was.older.items) was.changes.items) made false) p = λ is. subst (λ (past : PastColourings). IsFreshStone (with_next past (play (newest_grid past) k p) false) p) (sym c.self.view_is) (c.requires.known.fresh is) in
    let start : c.len-2.result ≡ length was.changes.items = search rules in
    let count : c.len.result ≡ length was.older.items = search rules in
    let cells = c.has_all_cells.ensures.all in
    let settled : IsTrue (is_settled kept.known) → has_unreaching was.newest ≡ false = λ is. ap (λ (past : PastColourings). has_unreaching (newest_grid past)) c.self.view_is ∙ c.requires.known.settled is in
    let rows : KeepRows was.newest made c.is_full-full.result was.newest.side was.changes.items c.keep_played.new.changes.items = rw c.in_ok-make_room.ensures.changes at c.keep_played.ensures k move in
    let older : c.push_reserved.new.self.items ≡ was.older.items ++ kept ∷ [] = search rules in
    rw (← c.self.view_is, c.place_and_clear.ensures)
    (grown was.newest made was.stretch_start was.stretch_start was.older.items c.push_reserved.new.self.items kept was.changes.items c.keep_played.new.changes.items c.is_full-full.result false _
    refl c.self.invariant.0 cells (side_play was.newest k p) (play_cells was.newest k p c.args.cleared.now cells move.cleared) rows older refl refl start refl
    settled fresh (c.is_full-full.ensures ∙ ap is_full count) (room_for_all c.in_ok-make_room.ensures.changes (c.in_ok-make_room.ensures.few_rows) c.has_all_cells.ensures.few))

pub invariant_of-self-2 : goal.invariant_of-self-2
invariant_of-self-2 c =
    let count : length c.push_reserved.new.self.items ≡ length c.make_room.new.older.items + 1 = search rules in
    ((next (goal.at.invariant_of-self-2 c).After-push_reserved).0, omega (arith, count, c.push_reserved.ensures.capacity, c.in_ok-make_room.ensures.next))

pub returns-clause-ok : goal.returns-clause-ok
returns-clause-ok c = (next (goal.at.returns-clause-ok c).After-push_reserved).1

pub add_lone_stone-requires-clause-stone : goal.add_lone_stone-requires-clause-stone
add_lone_stone-requires-clause-stone c = grind (arith, common_steps)
