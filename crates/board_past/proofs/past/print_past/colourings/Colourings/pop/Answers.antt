use Rattle.board_past.proofs.Common.{◌≡◌, ◌+◌, ◌≤◌, ◌++◌, [], ◌∷◌, List, length, reverse, refl, ap, sym, subst, ◌∙◌, arith, rules, reverse-append, take_rest, Older, AreKept}
use Rattle.board_past.proofs.ColouringsLemmas.{past-pop}
use Rattle.board_past.proofs.past.print_past.colourings.Colourings.pop.Goals as goal
use Rattle.board_past.proofs.past.print_past.colourings.Colourings.pop.Goals.{After-unwrap-kept}

-- the colouring that gets the newest comes first, and those before it follow
turned : (c : After-unwrap-kept) → reverse c.self.inside.older.items ≡ c.unwrap-kept.result ∷ reverse c.pop.new.self.items
turned c =
    let parts : c.self.inside.older.items ≡ c.pop.new.self.items ++ c.unwrap-kept.result ∷ [] = search rules in
    ap reverse parts ∙ reverse-append c.pop.new.self.items (c.unwrap-kept.result ∷ [])

-- what is kept of the colouring that gets the newest
kept-first : (c : After-unwrap-kept) → AreKept c.self.inside.newest (c.unwrap-kept.result ∷ reverse c.pop.new.self.items) c.self.inside.changes.items
kept-first c = subst (λ (os : List Older). AreKept c.self.inside.newest os c.self.inside.changes.items) (turned c) c.self.invariant.0.kept

pub invariant_of-self : goal.invariant_of-self
invariant_of-self c =
    let p = c.self.inside in
    let parts : p.older.items ≡ c.pop.new.self.items ++ c.unwrap-kept.result ∷ [] = search rules in
    let less = past-pop p.newest p.stretch_start p.older.items c.pop.new.self.items c.unwrap-kept.result p.changes.items parts c.self.invariant.0 in
    let board = rw (c.deref.ensures.value, take_rest p.changes.items c.unwrap-kept.result.start) at c.step_back.ensures in
    let count : length p.older.items ≡ length c.pop.new.self.items + 1 = search rules in
    (rw (c.set_settled.ensures, board, c.truncate.ensures.items) less, omega (arith, count, c.pop.ensures.capacity, c.self.invariant.1))

-- the rest is only there for speed
pub offset_bounds-deref-start : goal.offset_bounds-deref-start
offset_bounds-deref-start c =
    let low : c.unwrap-kept.result.start ≤ length c.deref.result.now = rw c.deref.ensures.value (kept-first (goal.at.offset_bounds-deref-start c).After-unwrap-kept).0 in
    search rules

pub slice_bounds-step_back-count : goal.slice_bounds-step_back-count
slice_bounds-step_back-count c = rw c.deref.ensures.value (kept-first (goal.at.slice_bounds-step_back-count c).After-unwrap-kept).0

pub slice_bounds-step_back-start : goal.slice_bounds-step_back-start
slice_bounds-step_back-start c =
    let low : c.unwrap-kept.result.start ≤ length c.deref.result.now = rw c.deref.ensures.value (kept-first (goal.at.slice_bounds-step_back-start c).After-unwrap-kept).0 in
    search rules

pub step_back-requires-clause-point : goal.step_back-requires-clause-point
step_back-requires-clause-point c = λ is. ((kept-first (goal.at.step_back-requires-clause-point c).After-unwrap-kept).1 is).0

pub set_settled-requires : goal.set_settled-requires
set_settled-requires c = λ is.
    let board = rw (c.deref.ensures.value, take_rest c.self.inside.changes.items c.unwrap-kept.result.start) at c.step_back.ensures in
    rw board ((kept-first (goal.at.set_settled-requires c).After-unwrap-kept).2 (sym c.is_settled.ensures ∙ is))

pub returns : goal.returns
returns c =
    let board = rw (c.deref.ensures.value, take_rest c.self.inside.changes.items c.unwrap-kept.result.start) at c.step_back.ensures in
    rw (sym c.self.view_is) (simp (turned (goal.at.returns c).After-unwrap-kept, c.set_settled.ensures, board, c.truncate.ensures.items) refl)
