use Rattle.board_past.proofs.Common.{◌≡◌, ℕ, List, length, drop, reverse, ap, ◌∙◌, refl, rules, arith, take_at, all_of}
use Rattle.std.specs.Vec.{with_items}
use Rattle.board_past.proofs.PrintPastLemmas.{same_length}
use Rattle.board_past.proofs.TableLemmas.{sleeps, awoken}
use Rattle.board_past.proofs.past.print_past.table.Table.wake.Goals as goal

pub push_reserved-requires : goal.push_reserved-requires
push_reserved-requires c =
    let t = c.args.self.now in
    let none : length t.prints.items ≡ 0 = search rules in
    let asleep = sleeps (all_of c.args.past.now) t c.requires none (omega arith) in
    omega (arith, asleep.fits, asleep.prints_room, c.each.invariant.room, c.each.invariant.count, c.each-test.true, c.len-end.ensures)

pub returns : goal.returns
returns c =
    let t = c.args.self.now in
    let none : length t.prints.items ≡ 0 = search rules in
    let asleep = sleeps (all_of c.args.past.now) t c.requires none (omega arith) in
    let same : (with_items c.each.self.prints c.write_prints.new.prints).items ≡ c.write_prints.new.prints =
    take_at c.write_prints.new.prints (drop (length c.write_prints.new.prints) c.each.self.prints.items) c.each.self.prints.len
    (omega (arith, same_length (all_of c.args.past.now) c.write_prints.new.prints c.write_prints.ensures, c.each.invariant.count, c.each.auto.counter-end, c.each-test.false, c.len-end.ensures, c.each.self.prints.ok.0)) in
    awoken (all_of c.args.past.now) t
    (record { prints = with_items c.each.self.prints c.write_prints.new.prints; trie = c.each.self.trie; hashed = c.each.self.hashed; hashes = c.each.self.hashes; room_asleep = 0 })
    asleep (ap (λ (xs : List ℕ). reverse xs) same ∙ c.write_prints.ensures) c.each.invariant.trie c.each.invariant.hashes refl
