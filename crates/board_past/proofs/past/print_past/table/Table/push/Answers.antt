use Rattle.board_past.proofs.Common.{◌≡◌, ℕ, ◌-◌, ◌∷◌, [], List, length, length-append, inl, inr, refl, ap, subst, sym, ◌∙◌, arith, IsOpening, WIDTH, Table, IsNumber, keys_of}
use Rattle.board_past.proofs.TableLemmas.{at_number, hashes_more, linked_before, tabled, tabled_more, asleep_more}
use Rattle.board_past.proofs.NumberLemmas.{at-newest}
use Rattle.board_past.proofs.past.print_past.table.Table.push.Goals as goal

pub returns-in_default-clause-table : goal.returns-in_default-clause-table
returns-in_default-clause-table c = λ held next given some room.
    inl (asleep_more held c.args.self.now next (rw c.in_default.is at given.asleep) room)

pub returns-in_default-gap-clause-table : goal.returns-in_default-gap-clause-table
returns-in_default-gap-clause-table c = λ held next given some room.
    let t = c.args.self.now in
    let awake = rw c.in-Some.is at given.awake in
    let is = awake.0 in
    inr (tabled_more held t (record t { prints = c.push_reserved.new.self }) next c.in-Some.print is awake.1 c.push_reserved.ensures.items refl (omega (arith, room.trie, tabled held t is)) is.most (omega (arith, is.few))
    (linked_before t.hashed next held t.trie (omega (arith, is.few, tabled held t is)) is.linked) (hashes_more next held t.hashes.items is.kept))

pub returns-clause-table : goal.returns-clause-table
returns-clause-table c = λ held next given some room.
    let t = c.args.self.now in
    let awake = rw c.in-Some.is at given.awake in
    let is = awake.0 in
    let gap = rw c.in-Some-gap.is at some in
    let keys = keys_of t.hashed (next ∷ held) in
    let after : Table = record t { prints = c.push_reserved.new.self; trie = c.insert.new.self; hashes = c.keep_hash.new.kept } in
    let number : c.len.result - 1 ≡ length held =
    omega (arith, c.len.ensures, c.push_reserved.new.self.ok.0, ap (λ (xs : List ℕ). length xs) c.push_reserved.ensures.items, length-append t.prints.items (c.in-Some.print ∷ []), tabled held t is) in
    let trie = c.insert.ensures.trie WIDTH keys (linked_before t.hashed next held t.trie (omega (arith, gap.all)) is.linked) gap.within (subst (λ m. IsOpening keys t.trie (keys m) c.in-Some-gap.gap.slot c.in-Some-gap.gap.position) (sym gap.all) gap.opens)
    (subst (λ m. keys m c.in-Some-gap.gap.position ≡ c.in-Some-gap.gap.bit) (sym gap.all) gap.bit) in
    inr (tabled_more held t after next c.in-Some.print is awake.1 c.push_reserved.ensures.items refl (omega (arith, room.trie, c.insert.ensures.room, tabled held t is)) (omega (arith, is.most, c.insert.ensures.room))
    (omega (arith, c.insert.ensures.more, gap.all, tabled held t is)) trie
    (c.keep_hash.ensures (next ∷ held) (omega (arith, number)) (hashes_more next held t.hashes.items is.kept)
    (λ grid at some. gap.hash some ∙ at_number (next ∷ held) (length held) next.colouring grid (at-newest next held) (subst (λ n. IsNumber (next ∷ held) n grid) number at))))
