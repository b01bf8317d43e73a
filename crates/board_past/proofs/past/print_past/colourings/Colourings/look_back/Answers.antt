use Rattle.board_past.proofs.Common.{common_steps, ◌≡◌, ◌↔◌, ◌-◌, ◌<◌, not, Contains, List, length, take, slice_range, reverse, drop, ap, sym, subst, ◌∙◌, arith, length-take, rules, false≢true, length-reverse, Empty, Grid, cell_at, all_of, present_stretch, stretch_of, step_back, Decides-cell_eq}
use Rattle.board_past.proofs.ColouringsLemmas.{IsThere, IsStep, IsLook, started-le, step-from, look-from, contains-others, there-newest}
use Rattle.board_past.proofs.past.print_past.colourings.Colourings.look_back.Goals as goal
use Rattle.board_past.proofs.past.print_past.colourings.Colourings.look_back.Goals.{After-index-kept}

-- one step
some : (c : After-index-kept) → 0 < c.each.at
some c =
    let p = c.self.inside in
    let before = take c.each.at p.older.items in
    omega (arith, started-le p.stretch_start (reverse before) c.each.invariant.there.past.started, length-reverse before, length-take c.each.at p.older.items, c.each.invariant.high, c.if-at-self.false)

step : (c : After-index-kept) → IsStep (all_of c.args.self.now) c.self.inside.older.items c.self.inside.changes.items c.each.at c.each.end c.each.past c.index-kept.result.now
step c =
    let p = c.self.inside in
    step-from (all_of c.args.self.now) p.older.items p.changes.items c.each.at c.each.end p.stretch_start c.each.past c.index-kept.result.now (some c) c.each.invariant.high c.index-kept.ensures c.each.invariant.there

look : (c : After-index-kept) → IsLook (all_of c.args.self.now) c.self.inside.older.items c.each.at c.self.inside.stretch_start c.each.past c.index-kept.result.now
look c =
    let p = c.self.inside in
    look-from (all_of c.args.self.now) p.older.items p.changes.items c.each.at c.each.end p.stretch_start c.each.past c.index-kept.result.now (some c) c.each.invariant.high c.index-kept.ensures c.each.invariant.there
    (λ e. omega (arith, e, c.if-at-self.false))

-- the stretch has the looked for colouring exactly if the colourings before this one have it
earlier : (c : After-index-kept) → Contains (present_stretch c.args.self.now) c.args.made.now ↔ Contains (stretch_of (drop (length c.self.inside.older.items - (c.each.at - 1)) (all_of c.args.self.now))) c.args.made.now
earlier c =
    let rest = stretch_of (drop (length c.self.inside.older.items - (c.each.at - 1)) (all_of c.args.self.now)) in
    let others = contains-others c.each.past rest c.args.made.now (λ e. false≢true (sym c.if-same.false ∙ c.same.ensures.1 e)) in
    let split = (look c).stretch in (
      λ has. others.0 (subst (λ (gs : List Grid). Contains gs c.args.made.now) split (c.each.invariant.same.0 has)),
      λ has. c.each.invariant.same.1 (subst (λ (gs : List Grid). Contains gs c.args.made.now) (sym split) (others.1 has)),
    )

pub at-requires : goal.at-requires
at-requires c =
    rw c.each.invariant.side ((look (goal.at.at-requires c).After-index-kept).point (sym c.is_fresh.ensures ∙ c.if-is_fresh.true))

pub returns-then-ne : goal.returns-then-ne
returns-then-ne c =
    let at = (goal.at.returns-then-ne c).After-index-kept in
    let empty : Contains (present_stretch c.args.self.now) c.args.made.now → cell_at c.args.made.now c.index-kept.result.now.point ≡ Empty = λ has. (look at).new (sym c.is_fresh.ensures ∙ c.if-is_fresh.true) c.args.made.now ((earlier at).0 has) in
    (λ is. absurd (false≢true is), λ has. ap not (sym ((Decides-cell_eq c.at.result Empty).1 (c.at.ensures ∙ empty has))) ∙ sym c.ne.ensures ∙ c.if-ne.true)

pub step_back-requires-clause-point : goal.step_back-requires-clause-point
step_back-requires-clause-point c = (step (goal.at.step_back-requires-clause-point c).After-index-kept).point

pub step_back-requires-clause-changes : goal.step_back-requires-clause-changes
step_back-requires-clause-changes c = rw c.deref.ensures.value (step (goal.at.step_back-requires-clause-changes c).After-index-kept).on

pub each-preserved : goal.each-preserved
each-preserved c =
    let p = c.self.inside in
    let one = c.index-kept.result.now in
    let at = (goal.at.each-preserved c).After-index-kept in
    let is = step at in
    let board = rw c.deref.ensures.value at c.step_back.ensures in
    record {
      there = rw board (subst (λ s. IsThere (all_of c.args.self.now) p.older.items p.changes.items (c.each.at - 1) one.start s (step_back c.each.past one (slice_range p.changes.items one.start c.each.end))) (sym (look at).same_start) is.there);
      side = rw board (c.each.invariant.side ∙ sym is.side);
      high = omega (arith, c.each.invariant.high);
      same = earlier at;
    }

pub returns-then-at-self : goal.returns-then-at-self
returns-then-at-self c = grind (arith, common_steps)

pub slice_bounds-step_back-count : goal.slice_bounds-step_back-count
slice_bounds-step_back-count c = (step (goal.at.slice_bounds-step_back-count c).After-index-kept).low

pub slice_bounds-step_back-start : goal.slice_bounds-step_back-start
slice_bounds-step_back-start c = (step (goal.at.slice_bounds-step_back-start c).After-index-kept).low

pub overflow_sub-cost : goal.overflow_sub-cost
overflow_sub-cost c = (step (goal.at.overflow_sub-cost c).After-index-kept).low

pub each-init : goal.each-init
each-init c =
    let p = c.self.inside in
    let count : c.len-at.result ≡ length p.older.items = search rules in
    let first = there-newest p.newest p.stretch_start p.older.items p.changes.items (all_of c.args.self.now) c.len-at.result c.len-end.result (ap all_of c.self.view_is) count (c.len-end.ensures ∙ p.changes.ok.0) c.self.invariant.0 in
    record { there = rw c.copy-past.ensures first; side = search rules; high = omega (arith, count); same = grind arith }
