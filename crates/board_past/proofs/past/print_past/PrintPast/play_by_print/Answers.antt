use Rattle.board_past.proofs.Common.{Grid, print_of, ◌∙◌, false, ap, arith, play, PastColourings, newest_grid, with_next, all_of, IsPrintPast, inr, refl}
use Rattle.board_past.proofs.RepeatLemmas.{played_new, played_refused}
use Rattle.board_past.proofs.TableLemmas.{gap_never, tabled}
use Rattle.board_past.proofs.AtOnceLemmas.{at_once_none}
use Rattle.board_past.proofs.past.print_past.PrintPast.play_by_print.Goals as goal
use Rattle.board_past.proofs.past.print_past.PrintPast.play_by_print.Goals.{After-gap_of_stone}

pub returns-in_err-add_stone : goal.returns-in_err-add_stone
returns-in_err-add_stone c =
    let k = c.args.colour in
    let p = c.args.point in
    let never = gap_never c.self.inside.colourings c.args.self.now k p c.gap_of_stone.new.table c.in-Some.gap c.self.view_is c.in-Some.ensures.gap in
    played_refused k p c.args.self.now c.add_stone.new.past c.from_residual.result c.from_residual.ensures.0 never (c.in_err-add_stone.ensures.err ∙ c.self.view_is)

pub returns : goal.returns
returns c =
    let k = c.args.colour in
    let p = c.args.point in
    played_new k p c.args.self.now c.add_stone.new.past
    (gap_never c.self.inside.colourings c.args.self.now k p c.gap_of_stone.new.table c.in-Some.gap c.self.view_is c.in-Some.ensures.gap)
    (c.in_ok-add_stone.ensures.ok ∙ ap (λ (past : PastColourings). with_next past (play (newest_grid past) k p) false) c.self.view_is)

pub newest-requires : goal.newest-requires
newest-requires c = omega (arith, tabled (all_of c.self.inside.colourings) c.wake.new.self c.wake.ensures)

pub add_stone-requires-clause-print : goal.add_stone-requires-clause-print
add_stone-requires-clause-print c =
    record { awake = (c.gap_of_stone.ensures.table, c.print_after_clearing-print.ensures ∙ ap (λ (g : Grid). print_of (play g c.args.colour c.args.point)) c.newest-newest.ensures); asleep = tt }

-- what is kept once the table is awake
awake : (c : After-gap_of_stone) → IsPrintPast c.self.inside.colourings c.gap_of_stone.new.table c.self.inside.emptied 0
awake c = record { tabled = inr c.gap_of_stone.ensures.table; emptied_in = c.self.invariant.emptied_in; at_once = at_once_none c.self.inside.colourings c.gap_of_stone.new.table }

pub add_stone-requires-clause-past : goal.add_stone-requires-clause-past
add_stone-requires-clause-past c = (0, awake (goal.at.add_stone-requires-clause-past c).After-gap_of_stone)

-- the rest is only there for speed
pub invariant_of-self : goal.invariant_of-self
invariant_of-self c = awake (goal.at.invariant_of-self c).After-gap_of_stone

pub returns-in_default : goal.returns-in_default
returns-in_default c = rw (← c.self.view_is) (record { known = (λ _. c.in_default.ensures.has, λ _. refl); ok = refl; refused = tt; err = tt })

pub invariant_of-self-in_err-add_stone : goal.invariant_of-self-in_err-add_stone
invariant_of-self-in_err-add_stone c = c.add_stone.ensures.past 0 (awake (goal.at.invariant_of-self-in_err-add_stone c).After-gap_of_stone)

pub invariant_of-self-2 : goal.invariant_of-self-2
invariant_of-self-2 c = c.add_stone.ensures.past 0 (awake (goal.at.invariant_of-self-2 c).After-gap_of_stone)
