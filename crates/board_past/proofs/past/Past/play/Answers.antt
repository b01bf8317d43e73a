use Rattle.board_past.proofs.Common.{false, Contains, refl, sym, ap, subst, ◌∙◌, false≢true, play, Grid, present_stretch, with_next}
use Rattle.board_past.proofs.RepeatLemmas.{played_new, played_refused}
use Rattle.board_past.proofs.past.Past.play.Goals as goal

pub returns-then-holds : goal.returns-then-holds
returns-then-holds g c =
    let made = c.place.ensures.value ∙ ap (λ (b : Grid). play b c.args.colour c.args.point) (c.copy-made.ensures ∙ c.newest.ensures) in
    let has = subst (Contains (present_stretch (g.Self.Past.held c.args.self.now))) made (c.holds.ensures.0 c.if-holds.true) in
    record { known = (λ _. has, λ _. refl); ok = refl; refused = tt; err = tt }

-- the rest is only there for speed
pub returns-in_err-push : goal.returns-in_err-push
returns-in_err-push g c =
    let made = c.place.ensures.value ∙ ap (λ (b : Grid). play b c.args.colour c.args.point) (c.copy-made.ensures ∙ c.newest.ensures) in
    played_refused c.args.colour c.args.point (g.Self.Past.held c.args.self.now) (g.Self.Past.held c.push.new.self) c.from_residual.result c.from_residual.ensures.0
    (λ has. false≢true (sym c.if-holds.false ∙ c.holds.ensures.1 (subst (Contains (present_stretch (g.Self.Past.held c.args.self.now))) (sym made) has))) c.in_err-push.ensures.err

pub returns : goal.returns
returns g c =
    let made = c.place.ensures.value ∙ ap (λ (b : Grid). play b c.args.colour c.args.point) (c.copy-made.ensures ∙ c.newest.ensures) in
    let old = g.Self.Past.held c.args.self.now in
    played_new c.args.colour c.args.point old (g.Self.Past.held c.push.new.self)
    (λ has. false≢true (sym c.if-holds.false ∙ c.holds.ensures.1 (subst (Contains (present_stretch old)) (sym made) has))) (c.in_ok-push.ensures.ok ∙ ap (λ (b : Grid). with_next old b false) made)
