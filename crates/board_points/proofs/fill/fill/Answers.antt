use Rattle.board_points.proofs.Common.{◌≡◌, ◌<◌, length, set, slice_index, sym, ap, ◌∙◌, subst, arith, rules, suc, ◌+◌, get_or-set_same, and_parts, row_above, Up, Down, IsFilledBut}
use Rattle.board_points.proofs.WordLemmas.{has_bit-and}
use Rattle.board_points.proofs.GiveLemmas.{IsSwept-more, IsFilledBut-swept, after_sweep, turned, IsClosed-all}
use Rattle.board_points.proofs.fill.fill.Goals as goal

pub widened-word-requires : goal.widened-word-requires
widened-word-requires c = λ col is. (and_parts _ _ (sym (has_bit-and _ _ col) ∙ is)).1

pub rows-preserved : goal.rows-preserved
rows-preserved c =
    let l = c.rows in
    let w = c.widened-word in
    let word = w.result.0 in
    let below : l.row < length l.rows = search rules in
    let next : slice_index (set l.rows l.row word) l.row ≡ word = get_or-set_same l.rows l.row word 0 below in
    let step : l.row + 1 ≡ suc l.row = omega arith in
    record {
      swept = IsSwept-more c.args.region.now c.args.rows.now l.rows l.ups l.row l.above word l.invariant.swept below l.invariant.above
          w.ensures.within w.ensures.kept w.ensures.closed w.ensures.least
          l.above_lacks c.with_flag-ups.result l.invariant.lacks c.with_flag-ups.ensures.there c.with_flag-ups.ensures.elsewhere;
      above = sym (ap (row_above (set l.rows l.row word)) step ∙ next);
      lacks = λ r same col. after_sweep c.args.region.now (set l.rows l.row word) r l.row word w.result.1 (omega (arith, same)) next w.ensures.left col;
    }

pub passes-init : goal.passes-init
passes-init c =
    let l = c.rows in
    IsFilledBut-swept c.args.region.now c.args.rows.now l.rows l.ups l.row l.invariant.swept (omega (arith, c.rows-test.false, l.auto.rows)) (omega (arith, l.auto.row-end, l.auto.rows))

pub give_all-ups-requires-clause-within : goal.give_all-ups-requires-clause-within
give_all-ups-requires-clause-within c =
    let up = c.give_all-downs.ensures.filled c.args.rows.now c.passes.invariant in
    record { same = up.all; few = omega (arith, up.all, c.requires.same, c.requires.few); within = up.grows.within }

pub give_all-ups-requires-clause-flags : goal.give_all-ups-requires-clause-flags
give_all-ups-requires-clause-flags c = (c.give_all-downs.ensures.filled c.args.rows.now c.passes.invariant).back_in

pub passes-preserved : goal.passes-preserved
passes-preserved c =
    let up = c.give_all-downs.ensures.filled c.args.rows.now c.passes.invariant in
    let down = c.give_all-ups.ensures.filled c.args.rows.now (turned Up c.args.region.now c.args.rows.now c.give_all-downs.new.rows c.give_all-downs.result up) in
    turned Down c.args.region.now c.args.rows.now c.give_all-ups.new.rows c.give_all-ups.result down

pub returns-clause-closed : goal.returns-clause-closed
returns-clause-closed c =
    IsClosed-all c.args.region.now c.args.rows.now c.passes.rows
    (subst (λ w. IsFilledBut c.args.region.now c.args.rows.now c.passes.rows Up w 0 0 0) c.passes-test.false c.passes.invariant)
