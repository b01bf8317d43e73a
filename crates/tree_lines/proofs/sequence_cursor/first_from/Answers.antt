-- Places rise in file order, and so do those of the last nodes of sequences.
use Rattle.tree_lines.proofs.Common.{◌≡◌, ◌+◌, ◌-◌, ◌/◌, inl, inr, arith, cases_eq, common_steps}
use Rattle.tree_lines.proofs.SequenceSeeking.{lasts_rise}
use Rattle.tree_lines.proofs.sequence_cursor.first_from.Goals as goal

pub loop-low-preserved-then-last_place-place : goal.loop-low-preserved-then-last_place-place
loop-low-preserved-then-last_place-place c =
    let middle = c.loop-low.low + (c.loop-low.high - c.loop-low.low) / 2 in
    let less = c.loop-low-test.true in
    record {
      order = omega arith;
      within = c.loop-low.invariant.within;
      before = λ earlier here lt e. elim (cases_eq earlier middle) [
        | inl same ↦ let there = rw same at e in let is = c.last_place.ensures in let equal : c.last_place.result ≡ here = cc in omega (arith, c.if-last_place-place.true)
        | inr other ↦
            grind (arith, common_steps, lasts_rise c.args.outline.now earlier middle (omega arith) (omega (arith, c.loop-low.invariant.within)))
      ];
      after = c.loop-low.invariant.after;
    }
