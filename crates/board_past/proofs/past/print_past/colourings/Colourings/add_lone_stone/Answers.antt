use Rattle.board_past.proofs.Common.{◌≡◌, ◌+◌, [], false, true, length, reverse, refl, ap, sym, subst, ◌∙◌, IsTrue, arith, rules, Fits-of_lt, has_unreaching, play, IsMove, Older, PastColourings, newest_grid, with_next, is_full, is_fresh, IsFreshStone, IsPast, side_play}
use Rattle.board_past.proofs.ChangesLemmas.{alone_back}
use Rattle.board_past.proofs.ColouringsLemmas.{count-all, start_fits, past_held, room_before_full, grown_alone}
use Rattle.board_past.proofs.past.print_past.colourings.Colourings.add_lone_stone.Goals as goal
use Rattle.board_past.proofs.past.print_past.colourings.Colourings.add_lone_stone.Goals.{After-push_reserved, After-has_all_cells}

count : (c : After-has_all_cells) → length c.args.self.now.older ≡ length c.self.inside.older.items
count c =
    let was = c.self.inside in
    omega (arith, count-all was.newest was.stretch_start was.older.items was.changes.items c.args.self.now c.self.view_is)

not_full : (c : After-has_all_cells) → is_full (length c.self.inside.older.items) ≡ false
not_full c = subst (λ n. is_full n ≡ false) (count c) c.requires.not_full

pub overflow_cast-kept-2 : goal.overflow_cast-kept-2
overflow_cast-kept-2 c = Fits-of_lt (start_fits _ _ _ _ _ c.self.view_is c.self.invariant.0 c.requires.few)

pub push_reserved-requires : goal.push_reserved-requires
push_reserved-requires c = omega (arith, c.self.inside.older.ok.0, (room_before_full _ _ c.self.invariant.1 (not_full (goal.at.push_reserved-requires c).After-has_all_cells)).0)

-- what is kept, and what it tells
next : (c : After-push_reserved) → IsPast c.place_and_clear.new.self c.self.inside.stretch_start c.push_reserved.new.self.items c.self.inside.changes.items
    × (past_held c.place_and_clear.new.self c.self.inside.stretch_start (reverse c.push_reserved.new.self.items) c.self.inside.changes.items ≡ with_next c.args.self.now (play (newest_grid c.args.self.now) c.args.colour c.args.point) false)
next c =
    let was = c.self.inside in
    let k = c.args.colour in
    let p = c.args.point in
    let made = play was.newest k p in
    let kept : Older = record { start = c.len.result; stretch_start = was.stretch_start; point = p; alone = true; known = c.args.known } in
    let move = subst (λ (past : PastColourings). IsMove (newest_grid past) k p []) (sym c.self.view_is) c.requires.stone in
    let fresh : IsTrue (is_fresh kept.known) → IsFreshStone (with_next (past_held was.newest was.stretch_start (reverse was.older.items) was.changes.items) made false) p = λ is. subst (λ (past : PastColourings). IsFreshStone (with_next past (play (newest_grid past) k p) false) p) (sym c.self.view_is) (c.requires.known.fresh is) in
    let settled = ap (λ (past : PastColourings). has_unreaching (newest_grid past)) c.self.view_is ∙ c.requires.known.settled c.requires.settled in
    rw (← c.self.view_is, c.place_and_clear.ensures)
    (grown_alone was.newest made was.stretch_start was.older.items c.push_reserved.new.self.items kept was.changes.items _
    refl c.self.invariant.0 (side_play was.newest k p) move.on_board (alone_back was.newest k p [] c.has_all_cells.ensures.all move refl)
    (search rules) refl (search rules) refl c.requires.settled settled fresh (not_full (goal.at.After-push_reserved c).After-has_all_cells))

pub invariant_of-self : goal.invariant_of-self
invariant_of-self c =
    let room = (room_before_full _ _ c.self.invariant.1 (not_full (goal.at.invariant_of-self c).After-has_all_cells)).1 in
    let more : length c.push_reserved.new.self.items ≡ length c.self.inside.older.items + 1 = search rules in
    ((next (goal.at.invariant_of-self c).After-push_reserved).0, rw (more, c.push_reserved.ensures.capacity) room)

pub returns : goal.returns
returns c = (next (goal.at.returns c).After-push_reserved).1
