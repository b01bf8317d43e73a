use Rattle.board_past.proofs.Common.{common_steps, ◌≡◌, ◌≢◌, ◌<◌, length, take, reverse, ap, sym, subst, ◌∙◌, arith, rules, Contains, length-take, false≢true, not-false, length-reverse, play, Grid, IsMove, PastColourings, all_of, newest_grid, present_stretch}
use Rattle.board_past.proofs.ColouringsLemmas.{started-le, passed_none, passed_one, passed_fresh}
use Rattle.board_past.proofs.RepeatLemmas.{stone_put, stone_left}
use Rattle.board_past.proofs.past.print_past.colourings.Colourings.newest_steps_show_new.Goals as goal
use Rattle.board_past.proofs.past.print_past.colourings.Colourings.newest_steps_show_new.Goals.{After-index-step}

pub each-init : goal.each-init
each-init c =
    let p = c.self.inside in
    let count : c.len-number.result ≡ length p.older.items = search rules in
    passed_none p.newest p.stretch_start p.older.items p.changes.items (all_of c.args.self.now) c.len-number.result c.args.point (ap all_of c.self.view_is) count c.self.invariant.0 c.has_all_cells.ensures.all

same : (c : After-index-step) → newest_grid c.args.self.now ≡ c.self.inside.newest
same c = sym (ap (λ (past : PastColourings). newest_grid past) c.self.view_is)

-- a step is left
some : (c : After-index-step) → 0 < c.each.number
some c =
    let p = c.self.inside in
    let before = take c.each.number p.older.items in
    omega (arith, started-le p.stretch_start (reverse before) c.each.invariant.there.past.started, length-reverse before, length-take c.each.number p.older.items, c.each.invariant.high, c.if-number-self.false)

pub has_point-requires-then-is_fresh : goal.has_point-requires-then-is_fresh
has_point-requires-then-is_fresh c =
    let at = (goal.at.has_point-requires-then-is_fresh c).After-index-step in
    let p = c.self.inside in
    let move = subst (λ (grid : Grid). IsMove grid c.requires.stone.0 c.args.point c.args.cleared.now) (same at) c.requires.stone.1 in
    let fresh = passed_fresh (all_of c.args.self.now) p.older.items p.changes.items p.stretch_start c.each.number p.newest c.args.point move.on_board move.empty c.each.invariant c.index-step.result.now (some at) c.index-step.ensures
    (λ e. omega (arith, e, c.if-number-self.false)) (sym c.is_fresh.ensures ∙ c.if-is_fresh.true) in
    omega (arith, fresh.0.0, c.has_all_cells.ensures.few)

pub returns-then-not-has_point : goal.returns-then-not-has_point
returns-then-not-has_point c = λ colour moved _ has.
    let at = (goal.at.returns-then-not-has_point c).After-index-step in
    let p = c.self.inside in
    let point = c.args.point in
    let rows = c.args.cleared.now in
    let one = c.index-step.result.now in
    let all = c.has_all_cells.ensures.all in
    let move = subst (λ (grid : Grid). IsMove grid colour point rows) (same at) moved in
    let fresh = passed_fresh (all_of c.args.self.now) p.older.items p.changes.items p.stretch_start c.each.number p.newest point move.on_board move.empty c.each.invariant one (some at) c.index-step.ensures
    (λ e. omega (arith, e, c.if-number-self.false)) (sym c.is_fresh.ensures ∙ c.if-is_fresh.true) in
    fresh.2 (play p.newest colour point) (stone_put p.newest colour point rows all move (sym c.has_point.ensures ∙ c.if-has_point.false))
    (stone_left p.newest colour point rows all move one.point fresh.0 fresh.1 (sym c.has_point-then-is_fresh.ensures ∙ c.if-not-has_point.true))
    (subst (λ (grid : Grid). Contains (present_stretch c.args.self.now) (play grid colour point)) (same at) has)

pub each-preserved : goal.each-preserved
each-preserved c =
    let at = (goal.at.each-preserved c).After-index-step in
    let p = c.self.inside in
    let move = subst (λ (grid : Grid). IsMove grid c.requires.stone.0 c.args.point c.args.cleared.now) (same at) c.requires.stone.1 in
    passed_one (all_of c.args.self.now) p.older.items p.changes.items p.stretch_start c.each.number p.newest c.args.point move.on_board move.empty c.each.invariant c.index-step.result.now (some at) c.index-step.ensures
    (λ e. omega (arith, e, c.if-number-self.false)) (not-false _ c.if-not-step.false)

pub returns-then-number-self : goal.returns-then-number-self
returns-then-number-self c = grind (arith, common_steps)

pub returns-then-not-step : goal.returns-then-not-step
returns-then-not-step c = λ k move is. absurd (false≢true is)
