use Rattle.board_past.proofs.Common.{◌≡◌, ℕ, Bool, cond, Empty, with_cell, after_changes, step_back, slice_range, print_of, List, [], ◌-◌, ◌+◌, ◌<◌, ◌++◌, length, length-set, reverse, drop, ap, sym, ◌∙◌, arith, rules, drop_all, all_of, prints_of}
use Rattle.board_past.proofs.ColouringsLemmas.{IsThere, IsStep, count-all, step-from, there-newest, written-next, written-all}
use Rattle.board_past.proofs.past.print_past.colourings.Colourings.write_prints.Goals as goal
use Rattle.board_past.proofs.past.print_past.colourings.Colourings.write_prints.Goals.{After-len-end, After-index-kept, then-kept, else-kept}

first_in : (c : After-len-end) → c.len-at.result < length c.args.prints.now
first_in c =
    let p = c.self.inside in
    let count : c.len-at.result ≡ length p.older.items = search rules in
    omega (arith, count, c.requires, count-all p.newest p.stretch_start p.older.items p.changes.items c.args.self.now c.self.view_is)

pub offset_bounds-prints-at : goal.offset_bounds-prints-at
offset_bounds-prints-at c = let low = first_in (goal.at.offset_bounds-prints-at c).After-len-end in search rules

pub bounds-prints-at : goal.bounds-prints-at
bounds-prints-at c = first_in (goal.at.bounds-prints-at c).After-len-end

pub each-init : goal.each-init
each-init c =
    let p = c.self.inside in
    let held = all_of c.args.self.now in
    let top = c.len-at.result in
    let prints = c.args.prints.now in
    let all = count-all p.newest p.stretch_start p.older.items p.changes.items c.args.self.now c.self.view_is in
    let count : top ≡ length p.older.items = search rules in
    let end : c.len-end.result ≡ length p.changes.items = search rules in
    let there : IsThere held p.older.items p.changes.items top c.len-end.result p.stretch_start c.copy-past.result =
    rw c.copy-past.ensures (there-newest p.newest p.stretch_start p.older.items p.changes.items held top c.len-end.result (ap all_of c.self.view_is) count end c.self.invariant.0) in
    let none : drop (top + 1) prints ≡ [] = drop_all (top + 1) prints (omega (arith, count, all, c.requires)) in
    let zero : length p.older.items - top ≡ 0 = omega (arith, count) in
    record {
      there = (p.stretch_start, there);
      high = omega (arith, count);
      all = length-set prints top c.print_of-print.result ∙ c.requires;
      written = written-next held p.older.items p.changes.items top c.len-end.result p.stretch_start c.copy-past.result prints c.print_of-print.result there c.print_of-print.ensures (first_in (goal.at.each-init c).After-len-end)
          (sym (ap (λ (ps : List ℕ). reverse ps ++ prints_of (drop (length p.older.items - top) held)) none ∙ ap (λ k. prints_of (drop k held)) zero));
      print = c.print_of-print.ensures;
    }

-- one step
step : (c : After-index-kept) → IsStep (all_of c.args.self.now) c.self.inside.older.items c.self.inside.changes.items c.each.at c.each.end c.each.past c.index-kept.result.now
step c =
    let p = c.self.inside in
    step-from (all_of c.args.self.now) p.older.items p.changes.items c.each.at c.each.end c.each.invariant.there.0 c.each.past c.index-kept.result.now
    (omega (arith, c.each-test.true)) c.each.invariant.high c.index-kept.ensures c.each.invariant.there.1

one_in : (c : After-index-kept) → c.each.at - 1 < length c.each.prints
one_in c =
    let p = c.self.inside in
    omega (arith, c.each-test.true, c.each.invariant.high, c.each.invariant.all, count-all p.newest p.stretch_start p.older.items p.changes.items c.args.self.now c.self.view_is)

pub print_without-print-requires-clause-on_board : goal.print_without-print-requires-clause-on_board
print_without-print-requires-clause-on_board c = (step (goal.at.print_without-print-requires-clause-on_board c).After-index-kept).point c.if-kept.true

pub set-requires : goal.set-requires
set-requires c = (step (goal.at.set-requires c).After-index-kept).point c.if-kept.true

pub slice_bounds-take_back-start : goal.slice_bounds-take_back-start
slice_bounds-take_back-start c = (step (goal.at.slice_bounds-take_back-start c).After-index-kept).low

pub slice_bounds-take_back-count : goal.slice_bounds-take_back-count
slice_bounds-take_back-count c = (step (goal.at.slice_bounds-take_back-count c).After-index-kept).low

pub take_back-requires : goal.take_back-requires
take_back-requires c = rw c.deref.ensures.value (step (goal.at.take_back-requires c).After-index-kept).on

pub offset_bounds-prints-at-in-each : goal.offset_bounds-prints-at-in-each
offset_bounds-prints-at-in-each c = let low = one_in (goal.at.offset_bounds-prints-at-in-each c).After-index-kept in search rules

pub bounds-prints-at-in-each : goal.bounds-prints-at-in-each
bounds-prints-at-in-each c = one_in (goal.at.bounds-prints-at-in-each c).After-index-kept

pub each-preserved : goal.each-preserved
each-preserved c =
    let p = c.self.inside in
    let held = all_of c.args.self.now in
    let older = p.older.items in
    let one = c.index-kept.result.now in
    let prints = c.each.prints in
    let n = c.each.at - 1 in
    let is = step (goal.at.each-preserved c).After-index-kept in
    let after = c.if-kept in
    let steps = slice_range p.changes.items one.start c.each.end in
    let either = λ (b : Bool). cond b (with_cell c.each.past one.point Empty) (after_changes c.each.past steps) in
    let back : (after.past ≡ step_back c.each.past one steps) × (after.print ≡ print_of after.past) = elim after.branch [
      | then-kept w ↦
          let past = w.past-is ∙ w.set.ensures in
          (past ∙ ap either (sym w.if-kept.true), w.print-is ∙ w.print_without-print.ensures ∙ ap print_of (sym past))
      | else-kept w ↦ (w.past-is ∙ (rw w.deref.ensures.value at w.take_back.ensures) ∙ ap either (sym w.if-kept.false), w.print-is ∙ w.print_of-print-else-kept.ensures ∙ ap print_of (sym w.past-is))
    ] in
    let there : IsThere held older p.changes.items n one.start one.stretch_start after.past = rw back.0 is.there in
    let next : c.each.at ≡ n + 1 = omega (arith, c.each-test.true) in
    let less : length older - c.each.at + 1 ≡ length older - n = omega (arith, c.each-test.true, c.each.invariant.high) in
    record {
      there = (one.stretch_start, there);
      high = omega (arith, c.each.invariant.high);
      all = length-set prints n after.print ∙ c.each.invariant.all;
      written = written-next held older p.changes.items n one.start one.stretch_start after.past prints after.print there back.1 (one_in (goal.at.each-preserved c).After-index-kept)
          (c.each.invariant.written
          ∙ ap (λ k. reverse (drop k prints) ++ prints_of (drop (length older - c.each.at + 1) held)) next
          ∙ ap (λ k. reverse (drop (n + 1) prints) ++ prints_of (drop k held)) less);
      print = back.1;
    }

pub returns : goal.returns
returns c =
    let p = c.self.inside in
    written-all (all_of c.args.self.now) p.older.items c.each.prints c.each.at (count-all p.newest p.stretch_start p.older.items p.changes.items c.args.self.now c.self.view_is)
    (omega (arith, c.each-test.false)) c.each.invariant.written
