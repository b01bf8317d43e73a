use Rattle.board_past.proofs.Common.{◌-◌, ◌<◌, inl, inr, length, refl, sym, subst, ◌∙◌, arith, cases_eq, false≢true, Contains, PastColourings, all_of, present_stretch, IsNumber}
use Rattle.board_past.proofs.NumberLemmas.{has_number, has_colouring}
use Rattle.board_past.proofs.past.print_past.PrintPastPast.holds.Goals as goal

pub returns-then-is_at : goal.returns-then-is_at
returns-then-is_at c =
    let held = all_of c.self.inside.colourings in
    let low : c.each.number - 1 < length held = omega (arith, c.each.invariant.within, c.each-test.true) in
    let has = has_colouring held (c.each.number - 1) c.args.board.now (omega (arith, c.stretch_start-start.ensures.start, c.each-test.true)) low (c.is_at.ensures.0 c.if-is_at.true) in
    (λ _. subst (λ (past : PastColourings). Contains (present_stretch past) c.args.board.now) c.self.view_is has, λ _. refl)

pub each-preserved : goal.each-preserved
each-preserved c =
    record {
      within = omega (arith, c.each.invariant.within);
      none = λ y low high at. elim (cases_eq y (c.each.number - 1)) [
        | inr other ↦ c.each.invariant.none y (omega (arith, low, other)) high at
        | inl same ↦ false≢true (sym c.if-is_at.false ∙ c.is_at.ensures.1 (subst (λ n. IsNumber (all_of c.self.inside.colourings) n c.args.board.now) same at))
      ];
    }

pub returns : goal.returns
returns c = (
  λ is. absurd (false≢true is),
  λ has.
      let held = subst (λ (past : PastColourings). Contains (present_stretch past) c.args.board.now) (sym c.self.view_is) has in
      let h = has_number (all_of c.self.inside.colourings) c.args.board.now held in
      absurd (c.each.invariant.none h.0 (omega (arith, c.stretch_start-start.ensures.start, h.2, c.each-test.false)) (omega (arith, h.1)) h.3),
)
