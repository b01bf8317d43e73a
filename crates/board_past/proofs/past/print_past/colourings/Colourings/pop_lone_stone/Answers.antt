use Rattle.board_past.proofs.Common.{◌≡◌, ◌+◌, ◌++◌, [], ◌∷◌, false, true, List, length, drop, cond, reverse, refl, ap, sym, subst, ◌∙◌, arith, rules, length-reverse, reverse-append, Empty, has_unreaching, Grid, with_cell, Change, after_changes, before, changes_before, is_full, AreKept, IsPast, Older}
use Rattle.board_past.proofs.ColouringsLemmas.{length-held, lone_step, none_kept, past-pop}
use Rattle.board_past.proofs.past.print_past.colourings.Colourings.pop_lone_stone.Goals as goal
use Rattle.board_past.proofs.past.print_past.colourings.Colourings.pop_lone_stone.Goals.{After-pop}

-- the colouring before the step, and its changes: the step has none
module _ (c : After-pop) (alone : c.unwrap-kept.result.now.alone ≡ true) where
  pub parts : c.self.inside.older.items ≡ c.pop.new.self.items ++ c.unwrap-kept.result.now ∷ []
  parts = search rules

  pub turned : reverse c.self.inside.older.items ≡ c.unwrap-kept.result.now ∷ reverse c.pop.new.self.items
  turned = ap reverse parts ∙ reverse-append c.pop.new.self.items (c.unwrap-kept.result.now ∷ [])

  pub board : before c.self.inside.newest c.unwrap-kept.result.now c.self.inside.changes.items ≡ with_cell c.self.inside.newest c.unwrap-kept.result.now.point Empty
  board = ap (λ b. cond b (with_cell c.self.inside.newest c.unwrap-kept.result.now.point Empty) (after_changes c.self.inside.newest (drop c.unwrap-kept.result.now.start c.self.inside.changes.items))) alone

  pub none : changes_before c.unwrap-kept.result.now c.self.inside.changes.items ≡ c.self.inside.changes.items
  none = none_kept c.self.inside.newest c.self.inside.stretch_start c.self.inside.older.items c.pop.new.self.items c.unwrap-kept.result.now c.self.inside.changes.items parts c.self.invariant.0 alone

  pub lone : (has_unreaching (with_cell c.self.inside.newest c.unwrap-kept.result.now.point Empty) ≡ false) × (is_full (length c.pop.new.self.items) ≡ false) × (c.self.inside.stretch_start ≡ c.unwrap-kept.result.now.stretch_start)
  lone = rw (← board) (lone_step c.self.inside.newest c.self.inside.stretch_start c.self.inside.older.items c.pop.new.self.items c.unwrap-kept.result.now c.self.inside.changes.items parts c.self.invariant.0 alone)

pub set-requires : goal.set-requires
set-requires c =
    let w = (goal.at.set-requires c).After-pop in
    let alone : c.unwrap-kept.result.now.alone ≡ true = search rules in
    ((subst (λ (os : List Older). AreKept c.self.inside.newest os c.self.inside.changes.items) (turned w alone) c.self.invariant.0.kept).1 alone).0

pub set_settled-requires : goal.set_settled-requires
set_settled-requires c = λ _.
    let w = (goal.at.set_settled-requires c).After-pop in
    rw c.set.ensures ((lone w (search rules)).0)

pub invariant_of-self : goal.invariant_of-self
invariant_of-self c =
    let p = c.self.inside in
    let o = c.unwrap-kept.result.now in
    let w = (goal.at.invariant_of-self c).After-pop in
    let alone : o.alone ≡ true = search rules in
    let less = past-pop p.newest p.stretch_start p.older.items c.pop.new.self.items o p.changes.items (parts w alone) c.self.invariant.0 in
    let count : length p.older.items ≡ length c.pop.new.self.items + 1 = search rules in (
      rw (c.set_settled.ensures, c.set.ensures, (lone w alone).2)
          (subst (λ (grid : Grid). IsPast grid o.stretch_start c.pop.new.self.items p.changes.items) (board w alone)
          (subst (λ (changes : List Change). IsPast (before p.newest o p.changes.items) o.stretch_start c.pop.new.self.items changes) (none w alone) less)),
      omega (arith, count, c.pop.ensures.capacity, c.self.invariant.1),
    )

pub returns-clause-taken_back : goal.returns-clause-taken_back
returns-clause-taken_back c = λ _.
    let p = c.self.inside in
    let w = (goal.at.returns-clause-taken_back c).After-pop in
    let alone : c.unwrap-kept.result.now.alone ≡ true = search rules in
    rw (sym c.self.view_is) (simp (turned w alone, board w alone, none w alone, (lone w alone).2, c.set_settled.ensures, c.set.ensures) refl)

pub returns-clause-settled : goal.returns-clause-settled
returns-clause-settled c = λ _.
    let w = (goal.at.returns-clause-settled c).After-pop in
    rw (c.set_settled.ensures, c.set.ensures) ((lone w (search rules)).0)

pub returns-clause-not_full : goal.returns-clause-not_full
returns-clause-not_full c = λ _.
    let w = (goal.at.returns-clause-not_full c).After-pop in
    rw (length-held (c.set_settled.new.self) (reverse c.pop.new.self.items) c.self.inside.changes.items, length-reverse c.pop.new.self.items) ((lone w (search rules)).1)
