use Rattle.go_board.proofs.Common.{◌≡◌, ◌+◌, ◌++◌, [], ◌∷◌, false, true, Contains, None, Repeat, refl, ap, sym, ◌∙◌, arith, rules, common_steps, length-reverse, play, newest_grid, with_next, present_stretch, Stone, MayOnlyRepeat, reason_of, States, Call, side_play, false≢true}
use Rattle.go_board.proofs.EarlierLemmas.{IsRefereeKept-grown, states_of-grown}
use Rattle.go_board.proofs.TurnLemmas.{reason_by_past, reason_of-new, refused_for}
use Rattle.go_board.proofs.referee.Referee.turn_in_full.Given.{Over}
use Rattle.go_board.proofs.referee.Referee.turn_in_full.Goals as goal
use Rattle.go_board.proofs.referee.Referee.turn_in_full.Goals.{After-play}

-- where the stretch doesn't have what the stone makes, there is no reason
new : (g : Over) (c : After-play g) → (Contains (present_stretch (g.P.Past.held c.self.inside.past)) (play (newest_grid (g.P.Past.held c.self.inside.past)) c.args.colour c.in-Stone.point) → ⊥) → reason_of c.args.self.now.present c.args.colour c.args.play ≡ None
new g c never =
    let left : MayOnlyRepeat c.args.self.now.present c.args.colour (Stone c.in-Stone.point) = rw c.in-Stone.is at c.in_default.ensures.only_repeat in
    ap (reason_of c.args.self.now.present c.args.colour) c.in-Stone.is
    ∙ reason_of-new c.args.self.now.present c.args.colour c.in-Stone.point _ _ (ap (λ (states : States). states.present.seen) c.self.view_is)
    (ap (λ (states : States). play states.present.colouring c.args.colour c.in-Stone.point) c.self.view_is) left never

pub returns-in_err-play-clause-illegal : goal.returns-in_err-play-clause-illegal
returns-in_err-play-clause-illegal g c =
    let none = new g (goal.at.returns-in_err-play-clause-illegal g c).After-play c.in_err-play.ensures.refused in
    grind (arith, common_steps)

pub returns-then-not-branch-clause-illegal : goal.returns-then-not-branch-clause-illegal
returns-then-not-branch-clause-illegal g c =
    let left : MayOnlyRepeat c.args.self.now.present c.args.colour (Stone c.in-Stone.point) = rw c.in-Stone.is at c.in_default.ensures.only_repeat in
    refused_for _ Repeat
    (ap (reason_of c.args.self.now.present c.args.colour) c.in-Stone.is
    ∙ reason_by_past c.args.self.now.present c.args.colour c.in-Stone.point true _ _ (ap (λ (states : States). states.present.seen) c.self.view_is)
    (ap (λ (states : States). play states.present.colouring c.args.colour c.in-Stone.point) c.self.view_is)
    left.0 left.1 left.2 (λ _. c.in_ok-play.ensures.known.0 c.if-not-branch.true, λ _. refl))

pub returns-then-is_err-clause-illegal : goal.returns-then-is_err-clause-illegal
returns-then-is_err-clause-illegal g c =
    let none = new g (goal.at.returns-then-is_err-clause-illegal g c).After-play (λ has. false≢true (sym (c.in_ok-play.ensures.known.1 has) ∙ c.if-not-branch.false)) in
    grind (arith, common_steps)

pub returns-clause-illegal : goal.returns-clause-illegal
returns-clause-illegal g c =
    let none = new g (goal.at.returns-clause-illegal g c).After-play (λ has. false≢true (sym (c.in_ok-play.ensures.known.1 has) ∙ c.if-not-branch.false)) in
    grind (arith, common_steps)

pub invariant_of-self-2 : goal.invariant_of-self-2
invariant_of-self-2 g c =
    let was = c.self.inside in
    let past = g.P.Past.held was.past in
    let made = play (newest_grid past) c.args.colour c.in-Stone.point in
    let now : g.P.Past.held c.play.new.self ≡ with_next past made false = rw c.if-not-branch.false at c.in_ok-play.ensures.ok in
    let items : c.push.new.self.items ≡ was.earlier.items ++ record { mover = was.mover; call = Call.Stone } ∷ [] = search rules in
    IsRefereeKept-grown past was.mover was.turns was.earlier.items Call.Stone refl
    (was.turns + 1) (omega arith) c.self.invariant (g.P.Past.held c.play.new.self) made false c.after-self-inside.result c.push.new.self.items now (side_play (newest_grid past) c.args.colour c.in-Stone.point) items

-- these two are only there for speed
pub overflow_add-self : goal.overflow_add-self
overflow_add-self g c = omega (arith, rw length-reverse at c.self.invariant.few_turns)

pub returns-clause-ok : goal.returns-clause-ok
returns-clause-ok g c =
    let was = c.self.inside in
    let past = g.P.Past.held was.past in
    let now : g.P.Past.held c.play.new.self ≡ with_next past (play (newest_grid past) c.args.colour c.in-Stone.point) false = rw c.if-not-branch.false at c.in_ok-play.ensures.ok in
    let items : c.push.new.self.items ≡ was.earlier.items ++ record { mover = was.mover; call = Call.Stone } ∷ [] = search rules in
    rw (sym c.self.view_is, c.in-Stone.is)
    (states_of-grown past was.mover was.turns was.earlier.items Call.Stone refl (was.turns + 1) (omega arith) _ _ false _ _ now items
    ∙ simp (c.after-self-inside.ensures.player, c.after-self-inside.ensures.passes, c.opponent.ensures))
