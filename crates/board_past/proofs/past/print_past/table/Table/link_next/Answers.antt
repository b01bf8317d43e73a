use Rattle.board_past.proofs.Common.{subst, arith, Agree, item_count, FRONT, WIDTH, all_of, bits_of, keys_of, parts_as, way_nearest}
use Rattle.board_past.proofs.TableLemmas.{links_with, tabled, found_in}
use Rattle.board_past.proofs.past.print_past.table.Table.link_next.Goals as goal

pub returns-in-Some : goal.returns-in-Some
returns-in-Some c =
    let t = c.args.self.now in
    let held = all_of c.args.past.now in
    let is = c.requires.unlinked.table in
    let keys = keys_of t.hashed held in
    let own = rw c.len-number.ensures at c.key_of-key.ensures in
    let apart = c.in-Some.ensures in
    let descent = c.descend-from.ensures.way WIDTH keys is.linked in
    let near = way_nearest WIDTH keys t.trie is.linked c.descend-from.result descent (omega arith) in
    let parts = parts_as near (keys (item_count t.trie)) _ c.in-Some.position apart.0 own.front (subst (λ n. Agree (bits_of c.key_of-other.result) (keys n) FRONT) c.child-near.ensures c.key_of-other.ensures.front) apart.1 apart.2 in
    links_with held t t c.insert_parted.new.self is c.requires.unlinked.more c.insert_parted.ensures.room c.insert_parted.ensures.more
    (c.insert_parted.ensures.trie WIDTH keys FRONT is.linked (omega (arith, apart.0)) descent apart.0 parts.0 parts.1)

-- the rest is only there for speed
pub returns-then-number-eq0 : goal.returns-then-number-eq0
returns-then-number-eq0 c =
    let t = c.args.self.now in
    links_with (all_of c.args.past.now) t t c.insert_first.new.self c.requires.unlinked.table c.requires.unlinked.more c.insert_first.ensures.room
    (omega (arith, c.insert_first.ensures.one, c.len-number.ensures, c.if-number-eq0.true)) (c.insert_first.ensures.trie WIDTH (keys_of t.hashed (all_of c.args.past.now)))

pub descend-from-requires-clause-some : goal.descend-from-requires-clause-some
descend-from-requires-clause-some c = omega (arith, c.len-number.ensures, c.if-number-eq0.false)

pub key_of-key-requires-clause-number : goal.key_of-key-requires-clause-number
key_of-key-requires-clause-number c =
    omega (arith, c.len-number.ensures, c.requires.unlinked.more, tabled (all_of c.args.past.now) c.args.self.now c.requires.unlinked.table)

pub key_of-other-requires-clause-number : goal.key_of-other-requires-clause-number
key_of-other-requires-clause-number c =
    let held = all_of c.args.past.now in
    let is = c.requires.unlinked in
    omega (arith, found_in held c.args.self.now is.table c.descend-from.ensures.way (omega arith) c.child-near.ensures, is.more, tabled held c.args.self.now is.table)
