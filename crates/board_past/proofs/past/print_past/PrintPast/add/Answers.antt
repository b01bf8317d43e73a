use Rattle.board_past.proofs.Common.{◌≡◌, ◌≢◌, true, subst, arith, Fits-of_lt, Point, IsOn, is_set, Empty, Grid, cell_at, Held, all_of, IsPrintOfNext, IsPrintPast}
use Rattle.board_past.proofs.AtOnceLemmas.{past_same}
use Rattle.board_past.proofs.RepeatLemmas.{all_stones}
use Rattle.board_past.proofs.TableLemmas.{few_all, print_same}
use Rattle.board_past.proofs.past.print_past.PrintPast.add.Goals as goal
use Rattle.board_past.proofs.past.print_past.PrintPast.add.Goals.{After-add_points-2, After-reserve-2, then-is_awake, else-is_awake}

abbrev next_of : After-add_points-2 → Held
next_of c = record { colouring = c.args.board.now; begins = c.args.begins }

-- the print that is given
given : (c : After-add_points-2) → IsPrintOfNext (all_of c.self.inside.colourings) c.self.inside.table (next_of c) c.if-is_awake.print
given c =
    let was = c.self.inside.colourings in
    elim c.if-is_awake.branch [
      | then-is_awake w ↦ rw w.print-is (record { awake = (c.is_awake.ensures.awake was.newest was.older c.self.invariant.tabled w.if-is_awake.true, w.print_of.ensures); asleep = tt })
      | else-is_awake w ↦ rw w.print-is (record { awake = tt; asleep = c.is_awake.ensures.asleep (all_of was) c.self.invariant.tabled w.if-is_awake.false })
    ]

pub invariant_of-self : goal.invariant_of-self
invariant_of-self c = record { tabled = c.self.invariant.tabled; emptied_in = c.reserve.ensures.emptied (all_of c.self.inside.colourings) c.self.invariant.emptied_in; at_once = c.self.invariant.at_once }

-- the room alone is changed
invariant_kept : (c : After-reserve-2) → IsPrintPast c.self.inside.colourings c.reserve-2.new.self c.reserve.new.self c.self.inside.at_once_below
invariant_kept c =
    let was = c.self.inside in
    let held = all_of was.colourings in
    past_same was.colourings was.table c.reserve-2.new.self was.emptied c.reserve.new.self was.at_once_below (c.reserve-2.ensures.asleep held) (c.reserve-2.ensures.awake held) c.reserve-2.ensures.room (c.reserve.ensures.emptied held) c.self.invariant

pub invariant_of-self-in_err-reserve-2 : goal.invariant_of-self-in_err-reserve-2
invariant_of-self-in_err-reserve-2 c = invariant_kept (goal.at.invariant_of-self-in_err-reserve-2 c).After-reserve-2

pub invariant_of-self-in_err-add : goal.invariant_of-self-in_err-add
invariant_of-self-in_err-add c = rw c.in_err-add.ensures.err (invariant_kept (goal.at.invariant_of-self-in_err-add c).After-reserve-2)

pub overflow_cast-number : goal.overflow_cast-number
overflow_cast-number c = Fits-of_lt (omega (arith, c.len-number.ensures, few_all (all_of c.self.inside.colourings) c.self.inside.table c.self.invariant.tabled))

pub add-requires-clause-few : goal.add-requires-clause-few
add-requires-clause-few c = omega (arith, few_all (all_of c.self.inside.colourings) c.self.inside.table c.self.invariant.tabled)

pub add-requires-2-clause-emptied : goal.add-requires-2-clause-emptied
add-requires-2-clause-emptied c = (all_of c.self.inside.colourings, c.reserve.ensures.emptied (all_of c.self.inside.colourings) c.self.invariant.emptied_in)

pub push-requires : goal.push-requires
push-requires c =
    let held = all_of c.self.inside.colourings in
    let w = (goal.at.push-requires c).After-add_points-2 in
    record { table = (held, next_of w, print_same held c.self.inside.table c.reserve-2.new.self (c.reserve-2.ensures.asleep held) (c.reserve-2.ensures.awake held) (next_of w) c.if-is_awake.print (given w), tt, c.in_ok-reserve-2.ensures.ok held c.len-number.ensures) }

pub invariant_of-self-2 : goal.invariant_of-self-2
invariant_of-self-2 c =
    let was = c.self.inside.colourings in
    let held = all_of was in
    let w = (goal.at.invariant_of-self-2 c).After-add_points-2 in
    let next = next_of w in
    let stones = subst (λ (g : Grid). (q : Point) → IsOn g.side q → cell_at g q ≢ Empty → is_set c.add_points-2.new.all q ≡ true) c.newest-newest.ensures
    (all_stones c.newest-newest.result.now _ _ _ _ _ c.rows_of.ensures.are c.rows_of-2.ensures.are c.add_points.ensures.both c.add_points-2.ensures.both) in
    rw c.in_ok-add.ensures.ok (record {
      tabled = c.push.ensures.table held next (print_same held c.self.inside.table c.reserve-2.new.self (c.reserve-2.ensures.asleep held) (c.reserve-2.ensures.awake held) next c.if-is_awake.print (given w)) tt (c.in_ok-reserve-2.ensures.ok held c.len-number.ensures);
      emptied_in = c.add-2.ensures.emptied next was.newest was.older (c.reserve.ensures.emptied held c.self.invariant.emptied_in) c.len-number.ensures (λ goes_on q on some free. stones q on some);
      at_once = rw c.in_ok-add.ensures.ok at c.at_once_below-self-inside.ensures;
    })
