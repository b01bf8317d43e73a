use Rattle.board_past.proofs.Common.{◌≡◌, ◌≢◌, ℕ, Bool, true, false, ◌<◌, ◌∷◌, length, ap, subst, sym, ◌∙◌, arith, Agree, item_count, child_at, IsNearest, IsTrie, IsWayTo, Grid, WIDTH, IsAwakeTable, Held, all_of, hash_of, bits_of, hash_in_key, key_bits, keys_of, start_of, print_of, agree_self, parts_as, way_nearest}
use Rattle.board_past.proofs.TableLemmas.{keys-next, keys-older, linked_before, repeats, side-number, tabled, found_in}
use Rattle.board_past.proofs.past.print_past.table.Table.gap_by_key.Goals as goal
use Rattle.board_past.proofs.past.print_past.table.Table.gap_by_key.Goals.{After-first_apart, After-has_all_cells, After-new-key, then-hash_if_deep, else-hash_if_deep, then-self, else-self}

-- the table, once keys have hashes if they need them
all_in : (c : After-has_all_cells) → IsAwakeTable (all_of c.args.past.now) c.if-hash_if_deep.self × (item_count c.if-hash_if_deep.self.trie ≡ length (all_of c.args.past.now))
all_in c = elim c.if-hash_if_deep.branch [
  | then-hash_if_deep w ↦ rw w.self-is (w.link.ensures.table, w.link.ensures.all ∙ tabled (all_of c.args.past.now) w.link.new.self w.link.ensures.table)
  | else-hash_if_deep w ↦ rw (w.self-is, c.hash_if_deep.ensures.unchanged w.if-hash_if_deep.false) (c.requires.table, c.requires.all ∙ tabled (all_of c.args.past.now) c.args.self.now c.requires.table)
]

hash_right : (c : After-new-key) → c.if-self.hash ≡ hash_in_key c.if-hash_if_deep.self.hashed c.args.board.now
hash_right c =
    let either = λ (b : Bool). hash_in_key b c.args.board.now in
    elim c.if-self.branch [
      | then-self w ↦ w.hash-is ∙ w.hash_of-hash.ensures ∙ ap either (sym w.if-self.true)
      | else-self w ↦ w.hash-is ∙ ap either (sym w.if-self.false)
    ]

module _ (c : After-first_apart) where
  abbrev pub next : Held
  next = record { colouring = c.args.board.now; begins = false }

  abbrev pub keys : ℕ → ℕ → Bool
  keys = keys_of c.if-hash_if_deep.self.hashed (next ∷ all_of c.args.past.now)

  pub count : item_count c.if-hash_if_deep.self.trie ≡ length (all_of c.args.past.now)
  count = (all_in (goal.at.After-first_apart c).After-has_all_cells).1

  pub linked : IsTrie WIDTH keys c.if-hash_if_deep.self.trie
  linked = linked_before c.if-hash_if_deep.self.hashed next (all_of c.args.past.now) c.if-hash_if_deep.self.trie (omega (arith, count)) (all_in (goal.at.After-first_apart c).After-has_all_cells).0.linked

  pub descent : IsWayTo keys c.if-hash_if_deep.self.trie (bits_of c.new-key.result) WIDTH c.descend-from.result
  descent = c.descend-from.ensures.way WIDTH keys linked

  pub found : IsNearest keys c.if-hash_if_deep.self.trie (bits_of c.new-key.result) WIDTH (child_at c.if-hash_if_deep.self.trie c.descend-from.result)
  found = way_nearest WIDTH keys c.if-hash_if_deep.self.trie linked c.descend-from.result descent (omega arith)

  -- the key that is descended by is that of the colouring
  pub own : bits_of c.new-key.result ≡ keys (length (all_of c.args.past.now))
  own =
      let held = all_of c.args.past.now in
      let board = c.args.board.now in
      c.new-key.ensures
      ∙ ap (λ n. key_bits n c.args.print c.if-self.hash board) c.stretch_start-start.ensures.start
      ∙ ap (λ n. key_bits (start_of held) n c.if-self.hash board) c.requires.print
      ∙ ap (λ n. key_bits (start_of held) (print_of board) n board) (hash_right (goal.at.After-first_apart c).After-new-key)
      ∙ sym (keys-next c.if-hash_if_deep.self.hashed held board)

-- a hash that isn't 0 was worked out
worked_out : (hashed : Bool) (grid : Grid) (hash : ℕ) → hash ≡ hash_in_key hashed grid → hash ≢ 0 → hash ≡ hash_of grid
worked_out true grid hash is some = is
worked_out false grid hash is some = absurd (some is)

pub returns-in-Some-clause-gap : goal.returns-in-Some-clause-gap
returns-in-Some-clause-gap c =
    let w = (goal.at.returns-in-Some-clause-gap c).After-first_apart in
    let t = c.if-hash_if_deep.self in
    let held = all_of c.args.past.now in
    let bits = keys w (length held) in
    let apart = c.in-Some.ensures.apart in
    let position = c.in-Some.position in
    let near = keys_of t.hashed held c.child-near.result in
    let other = ap (λ n. keys_of t.hashed held n) c.child-near.ensures ∙ sym (keys-older t.hashed (next w) held (child_at t.trie c.descend-from.result) (omega (arith, (found w).there, count w))) in
    let parts = parts_as (found w) bits near position apart.0
    (subst (λ x. Agree (bits_of c.new-key.result) x WIDTH) (own w) (agree_self (bits_of c.new-key.result) WIDTH))
    (subst (λ x. Agree near x WIDTH) other (agree_self near WIDTH))
    apart.1 apart.2 in
    rw c.first_apart.ensures.rest (record {
      all = count w;
      within = apart.0;
      opens = (rw c.first_apart.ensures.rest at c.opening.ensures.opening) WIDTH (keys w) bits WIDTH (linked w) (descent w) apart.0 parts.0 parts.1;
      bit = sym (c.bit.ensures ∙ ap (λ (x : ℕ → Bool). x position) (own w));
      hash = worked_out t.hashed c.args.board.now c.if-self.hash (hash_right (goal.at.returns-in-Some-clause-gap c).After-new-key);
    })

pub returns-in-None-clause-has : goal.returns-in-None-clause-has
returns-in-None-clause-has c =
    let w = (goal.at.returns-in-None-clause-has c).After-first_apart in
    let t = c.if-hash_if_deep.self in
    let held = all_of c.args.past.now in
    let is = (all_in (goal.at.returns-in-None-clause-has c).After-has_all_cells).0 in
    let board = c.args.board.now in
    let start = c.stretch_start-start in
    let past = c.in-None.ensures.cells in
    let near : c.child-near.result < length held = omega (arith, c.child-near.ensures, (found w).there, count w) in
    let side = side-number board.side held c.requires.side c.child-near.result past.0 near past.1 in
    repeats held t is start.result c.args.print c.if-self.hash c.child-near.result board past.0 start.ensures.start (omega (arith, start.ensures.below, tabled held t is, is.room, is.most))
    c.requires.print near past.1 side c.has_all_cells.ensures.few past.2 c.has_all_cells.ensures.all
    (subst (λ x. Agree x (keys_of t.hashed held c.child-near.result) WIDTH) c.new-key.ensures c.in-None.ensures.apart)

pub returns-in-None-clause-gap : goal.returns-in-None-clause-gap
returns-in-None-clause-gap c = tt

pub descend-from-requires-clause-some : goal.descend-from-requires-clause-some
descend-from-requires-clause-some c = omega (arith, (all_in (goal.at.descend-from-requires-clause-some c).After-has_all_cells).1)

pub first_apart-requires-clause-number : goal.first_apart-requires-clause-number
first_apart-requires-clause-number c =
    let held = all_of c.args.past.now in
    let t = c.if-hash_if_deep.self in
    let is = all_in (goal.at.first_apart-requires-clause-number c).After-has_all_cells in
    omega (arith, is.1, found_in held t is.0 c.descend-from.ensures.way (omega arith) c.child-near.ensures, is.0.few, tabled held t is.0)

pub hash_if_deep-requires-clause-some : goal.hash_if_deep-requires-clause-some
hash_if_deep-requires-clause-some c = omega (arith, c.requires.all, tabled (all_of c.args.past.now) c.args.self.now c.requires.table)

pub link-requires : goal.link-requires
link-requires c = c.hash_if_deep.ensures.table (all_of c.args.past.now) c.requires.table

pub descend-from-requires-clause-trie : goal.descend-from-requires-clause-trie
descend-from-requires-clause-trie c =
    (WIDTH, keys_of c.if-hash_if_deep.self.hashed (all_of c.args.past.now), (all_in (goal.at.descend-from-requires-clause-trie c).After-has_all_cells).0.linked)

pub first_apart-requires-clause-table : goal.first_apart-requires-clause-table
first_apart-requires-clause-table c = (all_in (goal.at.first_apart-requires-clause-table c).After-has_all_cells).0

pub opening-requires-clause-from : goal.opening-requires-clause-from
opening-requires-clause-from c = rw c.first_apart.ensures.rest c.descend-from.ensures.there
