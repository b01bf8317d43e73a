use Rattle.board_past.proofs.Common.{inr, arith}
use Rattle.board_past.proofs.TableLemmas.{asleep_grown, awake_grown, table_fits}
use Rattle.board_past.proofs.past.print_past.table.Table.reserve.Goals as goal

pub grow-requires-clause-prints : goal.grow-requires-clause-prints
grow-requires-clause-prints c = omega (arith, table_fits c.requires.0 c.args.self.now c.requires.1, c.requires.2)

pub grow-requires-clause-room : goal.grow-requires-clause-room
grow-requires-clause-room c = omega (arith, table_fits c.requires.0 c.args.self.now c.requires.1, c.requires.2)

pub returns-in_err-grow-clause-asleep : goal.returns-in_err-grow-clause-asleep
returns-in_err-grow-clause-asleep c = λ held is.
    let grows = c.grow.ensures.grows in
    asleep_grown held c.args.self.now c.grow.new.self c.grow.new.self.room_asleep grows (omega (arith, grows.asleep)) (omega (arith, grows, is.room)) (omega (arith, grows, is.prints_room)) is

pub returns-in_err-grow-clause-awake : goal.returns-in_err-grow-clause-awake
returns-in_err-grow-clause-awake c = λ held is. awake_grown held c.args.self.now c.grow.new.self c.grow.ensures.grows is

pub returns-then-not-is_awake-clause-asleep : goal.returns-then-not-is_awake-clause-asleep
returns-then-not-is_awake-clause-asleep c = λ held is.
    let grows = c.grow.ensures.grows in
    let room = c.room_of_both-self.ensures in
    asleep_grown held c.args.self.now c.grow.new.self c.room_of_both-self.result grows
    (room.least c.args.self.now.room_asleep (omega (arith, is.prints_room, grows.prints_room)) (omega (arith, is.room, grows.room))) room.trie room.prints is

pub returns-then-not-is_awake-clause-awake : goal.returns-then-not-is_awake-clause-awake
returns-then-not-is_awake-clause-awake c = λ held is.
    let grown = awake_grown held c.args.self.now c.grow.new.self c.grow.ensures.grows is in
    absurd (omega (arith, grown.awake, (c.is_awake.ensures.asleep held (inr grown) c.if-not-is_awake.true).asleep))

pub returns-else-not-is_awake-clause-asleep : goal.returns-else-not-is_awake-clause-asleep
returns-else-not-is_awake-clause-asleep c = λ held is. absurd (omega (arith, is.asleep, c.grow.ensures.grows.asleep, c.is_awake.ensures.room c.if-not-is_awake.false))

pub returns-else-not-is_awake-clause-awake : goal.returns-else-not-is_awake-clause-awake
returns-else-not-is_awake-clause-awake c = λ held is. awake_grown held c.args.self.now c.grow.new.self c.grow.ensures.grows is

pub returns-else-not-is_awake-clause-ok : goal.returns-else-not-is_awake-clause-ok
returns-else-not-is_awake-clause-ok c = λ held count. record {
  prints = omega (arith, count, c.in_ok-grow.ensures.prints);
  trie = omega (arith, count, c.in_ok-grow.ensures.trie);
  asleep = λ some. absurd (omega (arith, some, c.in_ok-grow.ensures.grows.asleep, c.is_awake.ensures.room c.if-not-is_awake.false));
}
