use Rattle.board_points.proofs.Common.{◌≡◌, ◌<◌, length, set, slice_index, bit_or, sym, ◌∙◌, arith, rules, length-set, and_parts}
use Rattle.board_points.proofs.WordLemmas.{has_bit-and}
use Rattle.board_points.proofs.GrowLemmas.{Grows-twice}
use Rattle.board_points.proofs.GiveLemmas.{Grows-take, take-there}
use Rattle.board_points.proofs.LinkedLemmas.{common_column}
use Rattle.board_points.proofs.quick.group.lives_ahead.Goals as goal

pub widened-taken-requires : goal.widened-taken-requires
widened-taken-requires c = λ col is. (and_parts _ _ (sym (has_bit-and _ _ col) ∙ is)).0

pub returns-then-taken-columns_with_liberty-ne0-clause-grows : goal.returns-then-taken-columns_with_liberty-ne0-clause-grows
returns-then-taken-columns_with_liberty-ne0-clause-grows c =
    let l = c.rows in
    let next = c.next-next.result in
    let below : next < length l.group = omega (arith, c.if-next-own.false, l.invariant.within.same) in
    let is_next = c.next-next.ensures.next (omega (arith, below, l.invariant.within.few)) in
    Grows-twice c.args.own.now c.args.group.now l.group (set l.group next (bit_or (slice_index l.group next) c.widened-taken.result.0)) l.invariant.grows
    (Grows-take c.args.way c.args.own.now l.group l.row next l.given c.widened-taken.result.0 is_next below l.invariant.within.within l.invariant.given c.widened-taken.ensures.within c.widened-taken.ensures.kept c.widened-taken.ensures.least)

pub returns-then-taken-columns_with_liberty-ne0-clause-lives : goal.returns-then-taken-columns_with_liberty-ne0-clause-lives
returns-then-taken-columns_with_liberty-ne0-clause-lives c = λ _.
    let l = c.rows in
    let next = c.next-next.result in
    let both = common_column c.widened-taken.result.0 c.columns_with_liberty.result (search rules) c.if-taken-columns_with_liberty-ne0.true in
    let below : next < length l.group = omega (arith, c.if-next-own.false, l.invariant.within.same) in
    let is_next = c.next-next.ensures.next (omega (arith, below, l.invariant.within.few)) in (
      record { col = both.0; row = next },
      take-there c.args.way c.args.own.now l.group l.row next l.given c.widened-taken.result.0 is_next below l.invariant.within.within l.invariant.given c.widened-taken.ensures.within c.widened-taken.ensures.kept c.widened-taken.ensures.least both.0 both.1,
      c.columns_with_liberty.ensures.from both.0 both.2,
    )

pub rows-preserved : goal.rows-preserved
rows-preserved c =
    let l = c.rows in
    let next = c.next-next.result in
    let after = set l.group next (bit_or (slice_index l.group next) c.widened-taken.result.0) in
    let long : length after ≡ length l.group = length-set l.group next (bit_or (slice_index l.group next) c.widened-taken.result.0) in
    let below : next < length l.group = omega (arith, c.if-next-own.false, l.invariant.within.same) in
    let is_next = c.next-next.ensures.next (omega (arith, below, l.invariant.within.few)) in
    let grows = Grows-take c.args.way c.args.own.now l.group l.row next l.given c.widened-taken.result.0 is_next below l.invariant.within.within l.invariant.given c.widened-taken.ensures.within c.widened-taken.ensures.kept c.widened-taken.ensures.least in
    record {
      within = record { same = long ∙ l.invariant.within.same; few = omega (arith, long, l.invariant.within.few); within = grows.within };
      grows = Grows-twice c.args.own.now c.args.group.now l.group after l.invariant.grows grows;
      row = c.if-next-own.false;
      given = take-there c.args.way c.args.own.now l.group l.row next l.given c.widened-taken.result.0 is_next below l.invariant.within.within l.invariant.given c.widened-taken.ensures.within c.widened-taken.ensures.kept c.widened-taken.ensures.least;
    }
