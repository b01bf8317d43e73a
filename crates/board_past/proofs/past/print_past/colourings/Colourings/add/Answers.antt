use Rattle.board_past.proofs.Common.{◌≡◌, ◌+◌, cond, false, ◌++◌, [], ◌∷◌, length, reverse, refl, ap, sym, ◌∙◌, arith, rules, Fits-of_lt, false≢true, Grid, Older, PastColourings, newest_grid, with_next, is_full, IsPast, KeepRows, IsTrue, has_unreaching, is_fresh, is_settled}
use Rattle.board_past.proofs.ColouringsLemmas.{start_fits, past_held, room_for_all, grown}
use Rattle.board_past.proofs.past.print_past.colourings.Colourings.add.Goals as goal
use Rattle.board_past.proofs.past.print_past.colourings.Colourings.add.Goals.{After-copy-self-inside, then-is_settled, else-is_settled, then-begins, else-begins}

pub overflow_cast-kept-2 : goal.overflow_cast-kept-2
overflow_cast-kept-2 c = Fits-of_lt (start_fits _ _ _ _ _ c.self.view_is c.self.invariant.0 c.requires.few)

-- what is kept, and what it tells
next : (c : After-copy-self-inside) → IsPast c.copy-self-inside.result c.if-begins.stretch_start c.push_reserved.new.self.items c.keep_rows.new.changes.items
    × (past_held c.copy-self-inside.result c.if-begins.stretch_start (reverse c.push_reserved.new.self.items) c.keep_rows.new.changes.items ≡ with_next c.args.self.now c.args.board.now c.args.begins)
next c =
    let was = c.self.inside in
    let board : Grid = c.args.board.now in
    let kept : Older = record { start = c.len.result; stretch_start = was.stretch_start; point = record { col = 0; row = 0 }; alone = false; known = c.if-is_settled.known } in
    let side : board.side ≡ was.newest.side = sym c.requires.side ∙ sym (ap (λ (past : PastColourings). (newest_grid past).side) c.self.view_is) in
    let count : c.len-2.result ≡ length was.older.items = search rules in
    let start : c.len.result ≡ length was.changes.items = search rules in
    let older : c.push_reserved.new.self.items ≡ was.older.items ++ kept ∷ [] = search rules in
    let rows : KeepRows was.newest board c.is_full-all.result was.newest.side was.changes.items c.keep_rows.new.changes.items = rw c.in_ok-make_room.ensures.changes at c.keep_rows.ensures in
    let follows : c.if-begins.stretch_start ≡ cond c.args.begins (length was.older.items + 1) was.stretch_start = elim c.if-begins.branch [
      | then-begins w ↦ rw w.if-begins.true (w.stretch_start-is ∙ search rules)
      | else-begins w ↦ rw w.if-begins.false w.stretch_start-is
    ] in
    let known : (IsTrue (is_settled c.if-is_settled.known) → has_unreaching was.newest ≡ false) × (IsTrue (is_fresh c.if-is_settled.known) → ⊥) = elim c.if-is_settled.branch [
      | then-is_settled w ↦ rw w.known-is (λ _. c.is_settled.ensures w.if-is_settled.true, λ is. false≢true is)
      | else-is_settled w ↦ rw w.known-is (λ is. absurd (false≢true is), λ is. false≢true is)
    ] in
    rw c.copy-self-inside.ensures
    (grown was.newest board was.stretch_start c.if-begins.stretch_start was.older.items c.push_reserved.new.self.items kept was.changes.items c.keep_rows.new.changes.items c.is_full-all.result c.args.begins c.args.self.now
    c.self.view_is c.self.invariant.0 c.has_all_cells.ensures.all side c.has_all_cells-2.ensures.all rows older follows refl start refl
    known.0 (λ is. absurd (known.1 is)) (c.is_full-all.ensures ∙ ap is_full count) (room_for_all c.in_ok-make_room.ensures.changes c.in_ok-make_room.ensures.few_rows c.has_all_cells.ensures.few))

pub invariant_of-self-2 : goal.invariant_of-self-2
invariant_of-self-2 c =
    let count : length c.push_reserved.new.self.items ≡ length c.make_room.new.older.items + 1 = search rules in
    ((next (goal.at.invariant_of-self-2 c).After-copy-self-inside).0, omega (arith, count, c.push_reserved.ensures.capacity, c.in_ok-make_room.ensures.next))

pub returns-clause-ok : goal.returns-clause-ok
returns-clause-ok c = (next (goal.at.returns-clause-ok c).After-copy-self-inside).1
