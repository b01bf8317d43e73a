use Rattle.board_past.proofs.Common.{ℕ, false, arith, Point, Colour, play, Held, PastColourings, all_of, newest_grid, with_next, IsPrintPast, Fits-of_lt}
use Rattle.board_past.proofs.RepeatLemmas.{emptied_by_play}
use Rattle.board_past.proofs.AtOnceLemmas.{at_once_more, at_once_same, past_same}
use Rattle.board_past.proofs.TableLemmas.{few_all, gap_same, print_same}
use Rattle.board_past.proofs.past.print_past.add_stone.Goals as goal
use Rattle.board_past.proofs.past.print_past.add_stone.Goals.{After-reserve-2}

abbrev next_of : PastColourings → Colour → Point → Held
next_of was k p = record { colouring = play (newest_grid was) k p; begins = false }

-- the room alone is changed
kept : (c : After-reserve-2) (below : ℕ) → IsPrintPast c.args.past.now c.args.table.now c.args.emptied.now below → IsPrintPast c.args.past.now c.reserve-2.new.self c.reserve.new.self below
kept c below is =
    let was = c.args.past.now in
    let held = all_of was in
    past_same was c.args.table.now c.reserve-2.new.self c.args.emptied.now c.reserve.new.self below (c.reserve-2.ensures.asleep held) (c.reserve-2.ensures.awake held) c.reserve-2.ensures.room (c.reserve.ensures.emptied held) is

pub returns-in_err-reserve-clause-past : goal.returns-in_err-reserve-clause-past
returns-in_err-reserve-clause-past c = λ below is. record { tabled = is.tabled; emptied_in = c.reserve.ensures.emptied (all_of c.args.past.now) is.emptied_in; at_once = is.at_once }

pub returns-in_err-reserve-2-clause-past : goal.returns-in_err-reserve-2-clause-past
returns-in_err-reserve-2-clause-past c = kept (goal.at.returns-in_err-reserve-2-clause-past c).After-reserve-2

pub returns-in_err-add_stone-clause-past : goal.returns-in_err-add_stone-clause-past
returns-in_err-add_stone-clause-past c = λ below is. rw c.in_err-add_stone.ensures.err (kept (goal.at.returns-in_err-add_stone-clause-past c).After-reserve-2 below is)

pub returns-clause-past : goal.returns-clause-past
returns-clause-past c = λ below is.
    let was = c.args.past.now in
    let held = all_of was in
    let k = c.args.colour in
    let p = c.args.point in
    let next = next_of was k p in
    rw c.in_ok-add_stone.ensures.ok (record {
      tabled = c.push.ensures.table held next
          (print_same held c.args.table.now c.reserve-2.new.self (c.reserve-2.ensures.asleep held) (c.reserve-2.ensures.awake held) next c.args.print c.requires.print)
          (gap_same held c.args.table.now c.reserve-2.new.self next c.args.gap c.reserve-2.ensures.trie c.reserve-2.ensures.hashed c.requires.gap)
          (c.in_ok-reserve-2.ensures.ok held c.len-number.ensures);
      emptied_in = c.add.ensures.emptied next was.newest was.older (c.reserve.ensures.emptied held is.emptied_in) c.len-number.ensures
          (λ goes_on. emptied_by_play (newest_grid was) k p c.args.cleared.now c.requires.stone);
      at_once = at_once_same (with_next was (play (newest_grid was) k p) false) c.args.table.now c.push.new.self below (omega (arith, c.push.ensures.room, c.reserve-2.ensures.room))
          (at_once_more was c.args.table.now below k p is.at_once);
    })

pub push-requires : goal.push-requires
push-requires c =
    let was = c.args.past.now in
    let held = all_of was in
    let next = next_of was c.args.colour c.args.point in
    record {
      table = (
        held,
        next,
        print_same held c.args.table.now c.reserve-2.new.self (c.reserve-2.ensures.asleep held) (c.reserve-2.ensures.awake held) next c.args.print c.requires.print,
        gap_same held c.args.table.now c.reserve-2.new.self next c.args.gap c.reserve-2.ensures.trie c.reserve-2.ensures.hashed c.requires.gap,
        c.in_ok-reserve-2.ensures.ok held c.len-number.ensures,
      );
    }

pub add_stone-requires-clause-few : goal.add_stone-requires-clause-few
add_stone-requires-clause-few c = omega (arith, few_all (all_of c.args.past.now) c.args.table.now c.requires.past.1.tabled)

pub overflow_cast-number : goal.overflow_cast-number
overflow_cast-number c = Fits-of_lt (omega (arith, c.len-number.ensures, few_all (all_of c.args.past.now) c.args.table.now c.requires.past.1.tabled))

pub add-requires-clause-emptied : goal.add-requires-clause-emptied
add-requires-clause-emptied c = (all_of c.args.past.now, c.reserve.ensures.emptied (all_of c.args.past.now) c.requires.past.1.emptied_in)
