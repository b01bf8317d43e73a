use Rattle.board_past.proofs.Common.{◌≡◌, ◌<◌, ◌^◌, ◌∷◌, false, bit_xor, w64, inl, inr, length, get_or, refl, ap, subst, sym, ◌∙◌, arith, bit_at, trailing_zeros, Fits-lt-pow, Fits-xor, Fits-of_lt, cases_lt, bit_at-trailing_zeros, item_count, child_at, IsNearest, IsTrie, IsWayTo, WIDTH, Held, all_of, bits_of, keys_of, way_nearest, get_or_default_zero}
use Rattle.board_past.proofs.PrintLemmas.{print_small}
use Rattle.board_past.proofs.TableLemmas.{tabled, gap_parts, linked_before, number_there, print_there, found_in}
use Rattle.board_past.proofs.past.print_past.table.Table.gap.Goals as goal

pub returns-clause-gap : goal.returns-clause-gap
returns-clause-gap c =
    let t = c.link.new.self in
    let held = all_of c.args.past.now in
    let trie = t.trie in
    let is = c.link.ensures.table in
    let count : item_count trie ≡ length held = c.link.ensures.all ∙ tabled held t is in
    let key = bits_of c.new-key.result in
    let from = c.descend-from.result in
    let near = child_at trie from in
    let linked : (next : Held) → IsTrie WIDTH (keys_of t.hashed (next ∷ held)) trie = λ next. linked_before t.hashed next held trie (omega (arith, count)) is.linked in
    let descent : (next : Held) → IsWayTo (keys_of t.hashed (next ∷ held)) trie key 64 from = λ next. c.descend-from.ensures.way WIDTH (keys_of t.hashed (next ∷ held)) (linked next) in
    let found : (next : Held) → IsNearest (keys_of t.hashed (next ∷ held)) trie key 64 near = λ next. way_nearest WIDTH (keys_of t.hashed (next ∷ held)) trie (linked next) from (descent next) (omega arith) in
    let low : near < item_count trie = (found (record { colouring = c.newest.result.now; begins = false })).there in
    let there = number_there held near (omega (arith, low, count)) in
    let item : c.child-near.result ≡ near = c.child-near.ensures in
    let print : c.index.result.now ≡ get_or t.prints.items near 0 =
    c.index.ensures ∙ ap (λ n. get_or t.prints.items n c.index.result.now) item ∙ get_or_default_zero t.prints.items near c.index.result.now (omega (arith, low, is.few)) in
    let near_fits : c.index.result.now < 2 ^ 64 = subst (λ n. n < 2 ^ 64) (sym (print ∙ print_there held t is near there.0 (omega (arith, low, count)) there.1)) (print_small there.0) in
    let xor = bit_xor c.args.print c.index.result.now in
    let small : xor < 2 ^ 64 = Fits-lt-pow (Fits-xor {w = w64} c.ranges.print (Fits-of_lt near_fits)) in
    let positive : 0 < xor = elim (cases_lt 0 xor) [ inl more ↦ more | inr none ↦ absurd (c.if-apart-eq0.false (omega (arith, none))) ] in
    let lowest = bit_at-trailing_zeros w64 xor positive small in
    let position = trailing_zeros w64 xor in
    λ next same.
    let parts = gap_parts held t is next c.args.print near position c.newest.result.now key same count c.new-key.ensures (found next) lowest.0
    (λ p h. ap (λ n. bit_at (bit_xor c.args.print n) p) (sym print) ∙ lowest.2 p h) (ap (λ n. bit_at (bit_xor c.args.print n) position) (sym print) ∙ lowest.1) in
    record {
      all = count;
      within = omega (arith, lowest.0);
      opens = c.opening.ensures.opening WIDTH (keys_of t.hashed (next ∷ held)) (keys_of t.hashed (next ∷ held) (length held)) 64 (linked next) (descent next) lowest.0 parts.0 parts.1;
      bit = sym (c.bit.ensures ∙ parts.0.each position (omega arith));
      hash = λ some. absurd (some refl);
    }

-- these are only there for speed
pub descend-from-requires-clause-some : goal.descend-from-requires-clause-some
descend-from-requires-clause-some c = omega (arith, c.link.ensures.all, tabled (all_of c.args.past.now) c.link.new.self c.link.ensures.table)

pub index-requires : goal.index-requires
index-requires c = omega (arith, c.link.ensures.all, found_in (all_of c.args.past.now) c.link.new.self c.link.ensures.table c.descend-from.ensures.way (omega arith) c.child-near.ensures)

pub returns-then-apart-eq0-clause-near : goal.returns-then-apart-eq0-clause-near
returns-then-apart-eq0-clause-near c =
    let held = all_of c.args.past.now in
    let is = c.link.ensures.table in
    omega (arith, c.link.ensures.all, found_in held c.link.new.self is c.descend-from.ensures.way (omega arith) c.child-near.ensures, tabled held c.link.new.self is)
