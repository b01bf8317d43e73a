use Rattle.board_points.proofs.Common.{◌≡◌, ◌<◌, length, set, slice_index, bit_or, inr, sym, ap, ◌∙◌, arith, rules, length-set, and_parts, has_bit}
use Rattle.board_points.proofs.WordLemmas.{has_bit-and}
use Rattle.board_points.proofs.GiveLemmas.{IsFilledBut-last, IsFilledBut-give, has_all, row_there, has_bit_lacked, HaveMore-twice, IsAmong-taken, taken-there, left-there, lacking-taken}
use Rattle.board_points.proofs.fill.give.Goals as goal

pub returns-then-next-rows-clause-filled : goal.returns-then-next-rows-clause-filled
returns-then-next-rows-clause-filled c = λ start flags was.
    let l = c.rows in
    IsFilledBut-last c.args.direction c.args.region.now start l.rows flags l.flags l.row l.given (l.invariant.filled start flags was)
    (λ next step col there given.
    let at : c.next-next.result ≡ next = c.next-next.ensures.only next step in
    absurd (omega (arith, row_there c.args.region.now next col there, at, c.if-next-rows.true, l.invariant.within.same)))

pub returns-then-here-given-eq0-clause-filled : goal.returns-then-here-given-eq0-clause-filled
returns-then-here-given-eq0-clause-filled c = λ start flags was.
    let l = c.rows in
    IsFilledBut-last c.args.direction c.args.region.now start l.rows flags l.flags l.row l.given (l.invariant.filled start flags was)
    (λ next step col there given.
    let at : c.next-next.result ≡ next = c.next-next.ensures.only next step in
    ap (λ k. has_bit (slice_index l.rows k) col) (sym at)
    ∙ has_all (slice_index c.args.region.now c.next-next.result) (slice_index l.rows c.next-next.result) _ l.given (has_bit_lacked c.args.region.now l.rows c.next-next.result l.invariant.within.within) c.if-here-given-eq0.true col
    (ap (λ k. has_bit (slice_index c.args.region.now k) col) at ∙ there) given)

pub widened-taken-requires : goal.widened-taken-requires
widened-taken-requires c = λ col is. (and_parts _ _ (sym (has_bit-and _ _ col) ∙ is)).0

pub rows-smaller : goal.rows-smaller
rows-smaller c =
    let l = c.rows in
    let here_is = has_bit_lacked c.args.region.now l.rows c.next-next.result l.invariant.within.within in
    let taken = c.widened-taken in
    let next = c.next-next.result in
    lacking-taken c.args.region.now l.rows next l.given _ taken.result.0 c.if-next-rows.false l.invariant.within.within here_is taken.ensures.within
    c.if-here-given-eq0.false (search rules) taken.ensures.kept

pub rows-preserved : goal.rows-preserved
rows-preserved c =
    let l = c.rows in
    let region = c.args.region.now in
    let here_is = has_bit_lacked c.args.region.now l.rows c.next-next.result l.invariant.within.within in
    let taken = c.widened-taken in
    let next = c.next-next.result in
    let word = bit_or (slice_index l.rows next) taken.result.0 in
    let after = set l.rows next word in
    let below : next < length l.rows = c.if-next-rows.false in
    let long : length after ≡ length l.rows = length-set l.rows next word in
    let is_next = c.next-next.ensures.next (omega (arith, below, l.invariant.within.few)) in
    let flags = c.with_flag-flags in
    record {
      within = record {
        same = long ∙ l.invariant.within.same;
        few = omega (arith, long, l.invariant.within.few);
        within = IsAmong-taken region l.rows next l.given _ taken.result.0 below l.invariant.within.within here_is taken.ensures.within;
      };
      row = omega (arith, long, below);
      given = taken-there region l.rows next l.given _ taken.result.0 below l.invariant.within.within here_is taken.ensures.within;
      lacks = left-there region l.rows next l.given _ taken.result.0 below l.invariant.within.within here_is taken.ensures.within taken.result.1 taken.ensures.left;
      filled = λ start ahead was.
          IsFilledBut-give c.args.direction region start l.rows ahead l.flags l.row next l.given _ taken.result.0 (l.invariant.filled start ahead was) is_next below
          l.invariant.given here_is taken.ensures.within taken.ensures.kept taken.ensures.closed taken.ensures.least
          l.lacks flags.result l.invariant.lacks flags.ensures.there flags.ensures.elsewhere;
      more =
          HaveMore-twice c.args.rows.now l.rows after c.args.back l.flags flags.result l.invariant.more
          (inr (lacking-taken region l.rows next l.given _ taken.result.0 below l.invariant.within.within here_is taken.ensures.within
          c.if-here-given-eq0.false (search rules) taken.ensures.kept));
    }
