use Rattle.board_past.proofs.Common.{◌≡◌, Contains, IfNone, IfSome, false, ap, sym, subst, ◌∙◌, play, Grid, all_of, newest_grid, present_stretch, with_next, IsGap}
use Rattle.board_past.proofs.past.print_past.gap_of_stone.Goals as goal
use Rattle.board_past.proofs.past.print_past.gap_of_stone.Goals.{After-gap_by_key}

pub returns-in-Ok-clause-gap : goal.returns-in-Ok-clause-gap
returns-in-Ok-clause-gap c =
    let was = c.args.past.now in
    c.in-Ok.ensures.gap (with_next was (play (newest_grid was) c.args.colour c.args.point) false).newest (sym c.requires.stone.print)

made : (c : After-gap_by_key) → c.place_and_clear.new.self ≡ play (newest_grid c.args.past.now) c.args.colour c.args.point
made c = c.place_and_clear.ensures ∙ ap (λ (g : Grid). play g c.args.colour c.args.point) (c.copy-made.ensures ∙ c.newest.ensures)

pub returns-clause-gap : goal.returns-clause-gap
returns-clause-gap c =
    let was = c.args.past.now in
    subst (λ (g : Grid). IfSome c.gap_by_key.result (IsGap (all_of was) c.gap_by_key.new.self (with_next was g false).newest)) (made (goal.at.returns-clause-gap c).After-gap_by_key) c.gap_by_key.ensures.gap

pub returns-clause-has : goal.returns-clause-has
returns-clause-has c =
    subst (λ (g : Grid). IfNone c.gap_by_key.result (Contains (present_stretch c.args.past.now) g)) (made (goal.at.returns-clause-has c).After-gap_by_key) c.gap_by_key.ensures.has

pub returns-then-has_near-clause-has : goal.returns-then-has_near-clause-has
returns-then-has_near-clause-has c =
    subst (λ (g : Grid). Contains (present_stretch c.args.past.now) g) (c.place_and_clear.ensures ∙ ap (λ (g : Grid). play g c.args.colour c.args.point) (c.copy-made.ensures ∙ c.newest.ensures)) (c.has_near.ensures c.if-has_near.true)
