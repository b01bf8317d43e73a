use Rattle.board_past.proofs.Common.{◌≡◌, ◌+◌, ◌-◌, ◌<◌, length, arith, refl, ap, sym, ◌∙◌, false≢true, Held}
use Rattle.board_past.proofs.ListPastLemmas.{Has-none, Has-found, Has-more, Has-cases}
use Rattle.board_past.proofs.past.list_past.stretch_has.Goals as goal

pub returns-then-same : goal.returns-then-same
returns-then-same c =
    let next : c.loop-i.i ≡ (c.loop-i.i - 1) + 1 = omega arith in
    let low : c.loop-i.i - 1 < length c.args.older.now = omega arith in
    let is = ap (λ (h : Held). h.colouring) (sym c.index-older-i.is ∙ sym c.kept.view_is) ∙ c.same.ensures.0 c.if-same.true in
    (λ _. c.loop-i.invariant.1 (Has-found _ _ _ _ c.index-older-i.result next low is), λ _. refl)

pub loop-i-preserved : goal.loop-i-preserved
loop-i-preserved c =
    let next : c.loop-i.i ≡ (c.loop-i.i - 1) + 1 = omega arith in
    let low : c.loop-i.i - 1 < length c.args.older.now = omega arith in
    let one = sym c.index-older-i.is ∙ sym c.kept.view_is in (
      λ h.
          (Has-cases _ _ _ _ c.index-older-i.result next low (λ same. false≢true (sym c.if-same.false ∙ c.same.ensures.1 (sym (ap (λ (k : Held). k.colouring) one) ∙ same))) (c.loop-i.invariant.0 h)).1,
      λ h. c.loop-i.invariant.1 (Has-more _ _ _ _ c.index-older-i.result next low (ap (λ (k : Held). k.begins) one ∙ c.if-kept.false) h),
    )

pub returns : goal.returns
returns c = (
  λ no. absurd (false≢true no),
  λ has. absurd (Has-none _ _ c.loop-i.i (omega (arith, c.loop-i-test.false)) (c.loop-i.invariant.0 has)),
)
