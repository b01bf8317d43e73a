use Rattle.board_past.proofs.Common.{false, ap, ◌∙◌, arith, play, Grid, all_of, newest_grid, with_next, print_of, IsAwakeTable, ◌≡◌, sym, PastColourings, IsPrintPast}
use Rattle.board_past.proofs.RepeatLemmas.{played_refused, played_new}
use Rattle.board_past.proofs.TableLemmas.{tabled}
use Rattle.board_past.proofs.past.print_past.PrintPast.play_new.Goals as goal
use Rattle.board_past.proofs.past.print_past.PrintPast.play_new.Goals.{Then-is_awake, then-is_awake, else-is_awake, After-add_stone, In_ok-add_stone, else-is_none-via-then-is_none+else-len-self, else-is_none-via-else-is_none}

awake : (c : Then-is_awake) → IsAwakeTable (all_of c.self.inside.colourings) c.self.inside.table
awake c = c.is_awake.ensures.awake c.self.inside.colourings.newest c.self.inside.colourings.older c.self.invariant.tabled c.if-is_awake.true

pub newest-requires : goal.newest-requires
newest-requires c = omega (arith, tabled (all_of c.self.inside.colourings) c.self.inside.table (awake (goal.at.newest-requires c).Then-is_awake))

pub add_stone-requires-clause-print : goal.add_stone-requires-clause-print
add_stone-requires-clause-print c =
    let was = c.self.inside.colourings in
    let next = (with_next was (play (newest_grid was) c.args.colour c.args.point) false).newest in
    elim c.if-is_awake.branch [
      | then-is_awake w ↦ rw w.print-is (record { awake = (c.is_awake.ensures.awake was.newest was.older c.self.invariant.tabled w.if-is_awake.true, w.print_after_clearing.ensures ∙ ap (λ (g : Grid). print_of (play g c.args.colour c.args.point)) w.newest-newest.ensures); asleep = tt })
      | else-is_awake w ↦ rw w.print-is (record { awake = tt; asleep = c.is_awake.ensures.asleep (all_of was) c.self.invariant.tabled w.if-is_awake.false })
    ]

pub add_stone-requires-clause-past : goal.add_stone-requires-clause-past
add_stone-requires-clause-past c = (c.self.inside.at_once_below, c.self.invariant)

-- the rest is only there for speed
pub returns-in_err-add_stone : goal.returns-in_err-add_stone
returns-in_err-add_stone c =
    played_refused c.args.colour c.args.point c.args.self.now c.add_stone.new.past c.from_residual.result c.from_residual.ensures.0 c.requires.never (c.in_err-add_stone.ensures.err ∙ c.self.view_is)

pub print_after_clearing-requires-clause-print : goal.print_after_clearing-requires-clause-print
print_after_clearing-requires-clause-print c =
    let was = c.self.inside.colourings in
    c.newest.ensures was.newest was.older (awake (goal.at.print_after_clearing-requires-clause-print c).Then-is_awake) ∙ ap (λ (g : Grid). print_of g) (sym c.newest-newest.ensures)

-- whether the stone was added or memory was refused, the number is still right
invariant_kept : (c : After-add_stone) → IsPrintPast c.add_stone.new.past c.add_stone.new.table c.add_stone.new.emptied c.self.inside.at_once_below
invariant_kept c = c.add_stone.ensures.past c.self.inside.at_once_below c.self.invariant

pub invariant_of-self : goal.invariant_of-self
invariant_of-self c = invariant_kept (goal.at.invariant_of-self c).After-add_stone

pub invariant_of-self-then-len-self : goal.invariant_of-self-then-len-self
invariant_of-self-then-len-self c =
    let is = invariant_kept (goal.at.invariant_of-self-then-len-self c).After-add_stone in
    record { tabled = is.tabled; emptied_in = is.emptied_in; at_once = c.at_once_below-self-inside.ensures }

pub invariant_of-self-else-len-self : goal.invariant_of-self-else-len-self
invariant_of-self-else-len-self c = invariant_kept (goal.at.invariant_of-self-else-len-self c).After-add_stone

pub invariant_of-self-else-is_none : goal.invariant_of-self-else-is_none
invariant_of-self-else-is_none c = invariant_kept (goal.at.invariant_of-self-else-is_none c).After-add_stone

added : (c : In_ok-add_stone) → c.add_stone.new.past ≡ with_next c.args.self.now (play (newest_grid c.args.self.now) c.args.colour c.args.point) false
added c = c.in_ok-add_stone.ensures.ok ∙ ap (λ (past : PastColourings). with_next past (play (newest_grid past) c.args.colour c.args.point) false) c.self.view_is

pub returns-then-len-self : goal.returns-then-len-self
returns-then-len-self c = played_new c.args.colour c.args.point c.args.self.now c.add_stone.new.past c.requires.never (added (goal.at.returns-then-len-self c).In_ok-add_stone)

pub returns-else-is_none : goal.returns-else-is_none
returns-else-is_none c =
    let is = added (goal.at.returns-else-is_none c).In_ok-add_stone in
    played_new c.args.colour c.args.point c.args.self.now c.else-is_none.self c.requires.never (elim c.else-is_none.branch [
      | else-is_none-via-then-is_none+else-len-self w ↦ w.self-is ∙ is
      | else-is_none-via-else-is_none w ↦ w.self-is ∙ is
    ])
