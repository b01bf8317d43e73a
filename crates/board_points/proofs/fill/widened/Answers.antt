use Rattle.board_points.proofs.Common.{◌/◌, ◌^◌, bit_and, sym, ◌∙◌, arith, rules, and_parts}
use Rattle.board_points.proofs.WordLemmas.{has_bit_apart}
use Rattle.board_points.proofs.CarryLemmas.{IsWidened-carried, IsWidened-before, in_before, HasBeside-none, AreLeft-before, fewer_left}
use Rattle.board_points.proofs.fill.widened.Goals as goal

pub widen-init : goal.widen-init
widen-init c =
    let wide = IsWidened-carried c.args.region c.args.seed (omega (arith, c.ranges.region.fits)) c.requires in
    record { wide = wide; left = λ col. has_bit_apart _ _ col wide.within }

pub returns-then-before-eq0-clause-closed : goal.returns-then-before-eq0-clause-closed
returns-then-before-eq0-clause-closed c =
    HasBeside-none c.args.region c.args.seed c.widen.word c.widen.left c.widen.invariant.wide c.widen.invariant.left c.if-before-eq0.true

pub widen-smaller : goal.widen-smaller
widen-smaller c =
    fewer_left c.widen.left (bit_and (c.widen.word / 2 ^ 1) c.widen.left) c.if-before-eq0.false (search rules) (λ col is. (in_before c.widen.word c.widen.left col is).1)

pub widen-preserved : goal.widen-preserved
widen-preserved c =
    let w = c.widen in
    let before = bit_and (w.word / 2 ^ 1) w.left in
    record {
      wide = IsWidened-before c.args.region c.args.seed w.word before w.invariant.wide
          (λ col is. (and_parts _ _ (sym (w.invariant.left col) ∙ (in_before w.word w.left col is).1)).0)
          (λ col is. (in_before w.word w.left col is).0);
      left = AreLeft-before c.args.region w.word w.left before w.invariant.left (λ col is. (in_before w.word w.left col is).1);
    }
