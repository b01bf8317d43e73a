use Rattle.board_points.proofs.Common.{ℕ, List, length, IsWithin, AreRowsBelow, ◌≡◌, ◌<◌, ◌^◌, true, arith, leading_top, inl, inr, sym, ap, ◌∙◌, subst, cases_eq, false≢true, has_bit, IsFilledBut}
use Rattle.board_points.proofs.ColumnLemmas.{without_smaller, lowest_left, highest}
use Rattle.board_points.proofs.GiveLemmas.{IsFilledBut-first, HaveMore-twice}
use Rattle.board_points.proofs.fill.give_all.Goals as goal
use Rattle.board_points.proofs.CountLemmas.{below_from_bits}
use Rattle.board_points.proofs.fill.give_all.Goals.{Joined-direction, in-Up, in-Down}

waiting_fits : (rows region : List ℕ) (waiting : ℕ) → IsWithin rows region → AreRowsBelow (length region) waiting → waiting < 2 ^ 64
waiting_fits rows region waiting within below =
    let whole = below_from_bits waiting 64 (λ row is. let low = below row is in omega (arith, low, within.same, within.few)) in omega (arith, whole)

-- the row is flagged
flagged : (c : Joined-direction) → (has_bit c.flags.waiting c.match-direction.row ≡ true) × (c.match-direction.row < 64)
flagged c =
    elim c.match-direction.branch [
      | in-Up w ↦ rw w.row-is (highest c.flags.waiting (waiting_fits _ _ _ c.flags.invariant.within c.flags.invariant.waiting_in) c.flags-test.true, omega arith)
      | in-Down w ↦ rw w.row-is (lowest_left c.flags.waiting c.flags.waiting c.flags-test.true (waiting_fits _ _ _ c.flags.invariant.within c.flags.invariant.waiting_in) (λ _ is. is))
    ]

pub overflow_sub-row : goal.overflow_sub-row
overflow_sub-row c = let top = leading_top 64 c.flags.waiting (omega (arith, c.flags-test.true)) (waiting_fits _ _ _ c.flags.invariant.within c.flags.invariant.waiting_in) in omega (arith, top.1)

pub without_column-waiting-requires : goal.without_column-waiting-requires
without_column-waiting-requires c = (flagged (goal.at.without_column-waiting-requires c).Joined-direction).1

pub give-back-requires-clause-first : goal.give-back-requires-clause-first
give-back-requires-clause-first c =
    let low = c.flags.invariant.waiting_in c.match-direction.row (flagged (goal.at.give-back-requires-clause-first c).Joined-direction).0 in omega (arith, low, c.flags.invariant.within.same)

pub flags-smaller : goal.flags-smaller
flags-smaller c =
    let left = c.without_column-waiting in
    without_smaller c.flags.waiting left.result c.match-direction.row (flagged (goal.at.flags-smaller c).Joined-direction).0 left.ensures.there left.ensures.elsewhere

pub flags-preserved : goal.flags-preserved
flags-preserved c =
    let m = c.flags in
    let left = c.without_column-waiting in
    let row = c.match-direction.row in
    record {
      within = c.give-back.ensures.within;
      waiting_in = λ r is.
          elim (cases_eq r row) [
            | inl same ↦ absurd (false≢true (sym left.ensures.there ∙ ap (has_bit left.result) (sym same) ∙ is))
            | inr other ↦ m.invariant.waiting_in r (sym (left.ensures.elsewhere r other) ∙ is)
          ];
      filled = λ first was.
          c.give-back.ensures.filled first left.result
          (IsFilledBut-first c.args.direction c.args.region.now first m.rows m.waiting left.result m.back row (m.invariant.filled first was) left.ensures.there left.ensures.elsewhere);
      more = HaveMore-twice c.args.rows.now m.rows c.give-back.new.rows 0 m.back c.give-back.result m.invariant.more c.give-back.ensures.more;
    }

pub returns-clause-filled : goal.returns-clause-filled
returns-clause-filled c = λ first was.
    subst (λ w. IsFilledBut c.args.region.now first c.flags.rows c.args.direction w c.flags.back 0 0) c.flags-test.false (c.flags.invariant.filled first was)
