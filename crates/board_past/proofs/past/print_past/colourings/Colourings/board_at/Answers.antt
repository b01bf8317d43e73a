use Rattle.board_past.proofs.Common.{◌≡◌, ℕ, ◌+◌, ◌-◌, ◌%◌, ◌<◌, length, get_or, ap, subst, ◌∙◌, arith, rules, eq-eqb, Fits-of_lt, Older, all_of, IsNumber}
use Rattle.board_past.proofs.ColouringsLemmas.{IsStep, IsFullStep, count-all, step-from, there-full, there-newest, there-number}
use Rattle.board_past.proofs.past.print_past.colourings.Colourings.board_at.Goals as goal
use Rattle.board_past.proofs.past.print_past.colourings.Colourings.board_at.Goals.{After-len-end, After-deref-in-each, then-from-at, else-from-at}

-- the colouring after the next full step
abbrev from : ℕ → ℕ
from number = number - number % 128 + 128

-- that step, from the newest board
full : (c : After-len-end) (next one : Older) → from c.args.number < length c.self.inside.older.items → next ≡ get_or c.self.inside.older.items (from c.args.number) next
    → one ≡ get_or c.self.inside.older.items (from c.args.number - 1) one → IsFullStep (all_of c.args.self.now) c.self.inside.older.items c.self.inside.changes.items (from c.args.number) next.start c.copy-board.result one
full c next one low is_next is_one =
    let p = c.self.inside in
    there-full p.newest c.copy-board.result p.stretch_start p.older.items p.changes.items (all_of c.args.self.now) (ap all_of c.self.view_is) c.self.invariant.0 c.copy-board.ensures c.has_all_cells.ensures.all
    (from c.args.number) next one (omega arith) low (eq-eqb ((from c.args.number - 1) % 128) 127 (omega arith)) is_next is_one

pub slice_bounds-take_back-count : goal.slice_bounds-take_back-count
slice_bounds-take_back-count c =
    let count : c.len-at.result ≡ length c.self.inside.older.items = search rules in
    (full (goal.at.slice_bounds-take_back-count c).After-len-end c.index.result.now c.index-then-from-at.result.now (omega (arith, c.if-from-at.true, count)) c.index.ensures c.index-then-from-at.ensures).low

pub slice_bounds-take_back-start : goal.slice_bounds-take_back-start
slice_bounds-take_back-start c =
    let count : c.len-at.result ≡ length c.self.inside.older.items = search rules in
    let is = full (goal.at.slice_bounds-take_back-start c).After-len-end c.index.result.now c.index-then-from-at.result.now (omega (arith, c.if-from-at.true, count)) c.index.ensures c.index-then-from-at.ensures in
    search rules

pub slice_bounds-take_back-end : goal.slice_bounds-take_back-end
slice_bounds-take_back-end c =
    let count : c.len-at.result ≡ length c.self.inside.older.items = search rules in
    let is = full (goal.at.slice_bounds-take_back-end c).After-len-end c.index.result.now c.index-then-from-at.result.now (omega (arith, c.if-from-at.true, count)) c.index.ensures c.index-then-from-at.ensures in
    search rules

pub overflow_add-from : goal.overflow_add-from
overflow_add-from c =
    let p = c.self.inside in
    Fits-of_lt (omega (arith, c.requires, count-all p.newest p.stretch_start p.older.items p.changes.items c.args.self.now c.self.view_is, p.older.ok.0, p.older.ok.1, p.older.small))

pub take_back-requires : goal.take_back-requires
take_back-requires c =
    let count : c.len-at.result ≡ length c.self.inside.older.items = search rules in
    rw c.deref.ensures.value (full (goal.at.take_back-requires c).After-len-end c.index.result.now c.index-then-from-at.result.now (omega (arith, c.if-from-at.true, count)) c.index.ensures c.index-then-from-at.ensures).on

pub each-init : goal.each-init
each-init c =
    let p = c.self.inside in
    let held = all_of c.args.self.now in
    let count : c.len-at.result ≡ length p.older.items = search rules in
    elim c.if-from-at.branch [
      | then-from-at w ↦
          let low : from c.args.number < length p.older.items = omega (arith, w.if-from-at.true, count) in
          let is = full (goal.at.each-init c).After-len-end w.index.result.now w.index-then-from-at.result.now low w.index.ensures w.index-then-from-at.ensures in
          let board = rw w.deref.ensures.value at w.take_back.ensures in
          record {
            there = (w.index-then-from-at.result.now.stretch_start, rw (w.board-is, w.at-is, w.end-is, board) is.there);
            low = rw w.at-is (omega arith);
            high = rw w.at-is (omega (arith, low));
          }
      | else-from-at w ↦
          record {
            there = (
              p.stretch_start,
              rw (w.board-is, w.at-is, w.end-is, c.copy-board.ensures)
                  (there-newest p.newest p.stretch_start p.older.items p.changes.items held c.len-at.result c.len-end.result (ap all_of c.self.view_is) count (c.len-end.ensures ∙ p.changes.ok.0) c.self.invariant.0),
            );
            low = rw w.at-is (omega (arith, count, c.requires, count-all p.newest p.stretch_start p.older.items p.changes.items c.args.self.now c.self.view_is));
            high = rw w.at-is (omega (arith, count));
          }
    ]

-- one step
step : (c : After-deref-in-each) → IsStep (all_of c.args.self.now) c.self.inside.older.items c.self.inside.changes.items c.each.at c.each.end c.each.board c.index-kept.result.now
step c =
    let p = c.self.inside in
    step-from (all_of c.args.self.now) p.older.items p.changes.items c.each.at c.each.end c.each.invariant.there.0 c.each.board c.index-kept.result.now
    (omega (arith, c.each-test.true)) c.each.invariant.high c.index-kept.ensures c.each.invariant.there.1

pub slice_bounds-step_back-count : goal.slice_bounds-step_back-count
slice_bounds-step_back-count c = (step (goal.at.slice_bounds-step_back-count c).After-deref-in-each).low

pub slice_bounds-step_back-start : goal.slice_bounds-step_back-start
slice_bounds-step_back-start c =
    let low = (step (goal.at.slice_bounds-step_back-start c).After-deref-in-each).low in
    search rules

pub step_back-requires-clause-point : goal.step_back-requires-clause-point
step_back-requires-clause-point c = (step (goal.at.step_back-requires-clause-point c).After-deref-in-each).point

pub step_back-requires-clause-changes : goal.step_back-requires-clause-changes
step_back-requires-clause-changes c = rw c.deref-in-each.ensures.value (step (goal.at.step_back-requires-clause-changes c).After-deref-in-each).on

pub each-preserved : goal.each-preserved
each-preserved c =
    let board = rw c.deref-in-each.ensures.value at c.step_back.ensures in
    record {
      there = (c.index-kept.result.now.stretch_start, rw board (step (goal.at.each-preserved c).After-deref-in-each).there);
      low = omega (arith, c.each-test.true);
      high = omega (arith, c.each.invariant.high);
    }

pub returns : goal.returns
returns c =
    let p = c.self.inside in
    let held = all_of c.args.self.now in
    let here : c.each.at ≡ c.args.number = omega (arith, c.each.invariant.low, c.each-test.false) in
    subst (λ n. IsNumber held n c.each.board) here
    (there-number held p.older.items p.changes.items c.each.at c.each.end c.each.invariant.there.0 c.each.board
    (count-all p.newest p.stretch_start p.older.items p.changes.items c.args.self.now c.self.view_is) c.each.invariant.there.1)
