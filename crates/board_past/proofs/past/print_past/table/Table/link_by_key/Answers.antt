use Rattle.board_past.proofs.Common.{◌≡◌, ℕ, Bool, Some, ap, sym, subst, ◌∙◌, arith, Agree, item_count, child_at, IsNearest, IsParting, IsWayTo, WIDTH, Table, all_of, bits_of, hash_in_key, keys_of, agree_back, agree_on, agree_self, parts_as, way_nearest}
use Rattle.board_past.specs.inner.Table.{IsFirstApart}
use Rattle.board_past.proofs.TableLemmas.{all_anew, links_with, tabled}
use Rattle.board_past.proofs.past.print_past.table.Table.link_by_key.Goals as goal
use Rattle.board_past.proofs.past.print_past.table.Table.link_by_key.Goals.{After-first_apart}

module _ (c : After-first_apart) where
  abbrev pub keys : ℕ → ℕ → Bool
  keys = keys_of c.args.self.now.hashed (all_of c.args.past.now)

  -- only hashes are new
  pub still : c.hash_if_deep.new.self ≡ record c.args.self.now { hashes = c.take_hash-hash.new.self.hashes }
  still = c.hash_if_deep.ensures.unchanged c.if-hash_if_deep.false ∙ c.take_hash-hash.ensures.rest

  pub rest : c.first_apart.new.self ≡ record c.args.self.now { hashes = c.first_apart.new.self.hashes }
  rest = c.first_apart.ensures.rest ∙ ap (λ (x : Table). record x { hashes = c.first_apart.new.self.hashes }) still

  pub descent : IsWayTo keys c.args.self.now.trie (bits_of c.key_of-key.result) WIDTH c.descend-from.result
  descent = (rw still at c.descend-from.ensures.way) WIDTH keys c.requires.unlinked.table.linked

  -- the nearest colouring in the trie
  pub near_is : c.child-near.result ≡ child_at c.args.self.now.trie c.descend-from.result
  near_is = rw still at c.child-near.ensures

  pub nearest_is : IsNearest keys c.args.self.now.trie (bits_of c.key_of-key.result) WIDTH c.child-near.result
  nearest_is = rw near_is (way_nearest WIDTH keys c.args.self.now.trie c.requires.unlinked.table.linked c.descend-from.result descent (omega arith))

  -- the bits of the next colouring's key
  pub own : Agree (bits_of c.key_of-key.result) (keys (item_count c.args.self.now.trie)) WIDTH
  own =
      let hashed : c.take_hash-hash.new.self.hashed ≡ c.args.self.now.hashed = ap (λ (x : Table). x.hashed) c.take_hash-hash.ensures.rest in
      let hash : c.take_hash-hash.result ≡ hash_in_key c.take_hash-hash.new.self.hashed c.board_at-board.result =
      c.take_hash-hash.ensures.hash c.board_at-board.result c.board_at-board.ensures ∙ ap (λ (h : Bool). hash_in_key h c.board_at-board.result) (sym hashed) in
      let whole = c.key_of-key.ensures.whole c.board_at-board.ensures hash ∙ ap (λ (h : Bool). keys_of h (all_of c.args.past.now) c.len-next.result) hashed ∙ ap keys c.len-next.ensures in
      subst (λ x. Agree (bits_of c.key_of-key.result) x WIDTH) whole (agree_self (bits_of c.key_of-key.result) WIDTH)

pub returns-in-Some : goal.returns-in-Some
returns-in-Some c =
    let w = (goal.at.returns-in-Some c).After-first_apart in
    let t = c.args.self.now in
    let apart = subst (λ (h : Bool). IsFirstApart (bits_of c.key_of-key.result) (keys_of h (all_of c.args.past.now) c.child-near.result) (Some c.in-Some.position)) (ap (λ (x : Table). x.hashed) (still w)) c.in-Some.ensures.apart in
    let near = keys w c.child-near.result in
    let added = rw (rest w) at c.insert_parted.ensures in
    let parts = parts_as (nearest_is w) (keys w (item_count t.trie)) near c.in-Some.position apart.0 (own w) (agree_self near WIDTH) apart.1 apart.2 in
    rw (rest w) (links_with (all_of c.args.past.now) t c.first_apart.new.self c.insert_parted.new.self (rw (rest w) at c.first_apart.ensures.table) c.requires.unlinked.more added.room added.more
    (added.trie WIDTH (keys w) WIDTH c.requires.unlinked.table.linked apart.0 (descent w) apart.0 parts.0
    (subst (λ n. IsParting (item_count t.trie) (keys w) (keys w (item_count t.trie)) n c.in-Some.position) (near_is w) parts.1)))

pub returns-in-None : goal.returns-in-None
returns-in-None c =
    let w = (goal.at.returns-in-None c).After-first_apart in
    let apart = subst (λ (h : Bool). Agree (bits_of c.key_of-key.result) (keys_of h (all_of c.args.past.now) c.child-near.result) WIDTH) (ap (λ (x : Table). x.hashed) (still w)) c.in-None.ensures.apart in
    let added = rw (rest w) at c.insert_equal.ensures in
    rw (rest w) (links_with (all_of c.args.past.now) c.args.self.now c.first_apart.new.self c.insert_equal.new.self (rw (rest w) at c.first_apart.ensures.table) c.requires.unlinked.more added.room added.more
    (added.trie WIDTH (keys w) c.child-near.result c.requires.unlinked.table.linked (nearest_is w).there (agree_on (agree_back apart) (own w))))

pub returns-then-hash_if_deep : goal.returns-then-hash_if_deep
returns-then-hash_if_deep c =
    let anew = rw c.take_hash-hash.ensures.rest at c.hash_if_deep.ensures in
    let hashed = anew.hashed c.if-hash_if_deep.true in
    record {
      table = c.hash_if_deep.ensures.table (all_of c.args.past.now) c.take_hash-hash.ensures.table;
      fewer = all_anew c.args.self.now c.hash_if_deep.new.self anew.prints hashed.0 hashed.1;
      prints = anew.prints;
    }

-- this one is only there for speed
pub board_at-board-requires : goal.board_at-board-requires
board_at-board-requires c = omega (arith, c.len-next.ensures, c.requires.unlinked.more, tabled (all_of c.args.past.now) c.args.self.now c.requires.unlinked.table)

pub first_apart-requires-clause-number : goal.first_apart-requires-clause-number
first_apart-requires-clause-number c =
    let held = all_of c.args.past.now in
    let t = c.hash_if_deep.new.self in
    let keys = keys_of t.hashed held in
    let is = c.hash_if_deep.ensures.table held c.take_hash-hash.ensures.table in
    let near = way_nearest WIDTH keys t.trie is.linked c.descend-from.result (c.descend-from.ensures.way WIDTH keys is.linked) (omega arith) in
    omega (arith, c.child-near.ensures, near.there, is.few, tabled held t is)

pub take_hash-hash-requires-clause-number : goal.take_hash-hash-requires-clause-number
take_hash-hash-requires-clause-number c =
    omega (arith, c.len-next.ensures, c.requires.unlinked.more, tabled (all_of c.args.past.now) c.args.self.now c.requires.unlinked.table)

pub key_of-key-requires-clause-number : goal.key_of-key-requires-clause-number
key_of-key-requires-clause-number c = omega (arith, c.len-next.ensures, c.requires.unlinked.more, tabled (all_of c.args.past.now) c.args.self.now c.requires.unlinked.table)
