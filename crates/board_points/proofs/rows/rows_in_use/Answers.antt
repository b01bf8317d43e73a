use Rattle.board_points.proofs.Common.{◌-◌, inl, inr, arith, rules, cases_eq}
use Rattle.board_points.proofs.rows.rows_in_use.Goals as goal

pub rows-preserved : goal.rows-preserved
rows-preserved c = record {
  few = omega arith;
  none = λ row from. elim (cases_eq row (c.rows.count - 1)) [ inl same ↦ rw same (search rules) | inr other ↦ c.rows.invariant.none row (omega (arith, from, other)) ];
}
