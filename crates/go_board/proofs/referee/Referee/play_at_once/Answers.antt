use Rattle.go_board.proofs.Common.{length-reverse, sym, ◌≡◌, ◌+◌, ◌++◌, [], ◌∷◌, false, refl, ap, ◌∙◌, arith, rules, play, newest_grid, with_next, reason_of, States, Call, side_play}
use Rattle.go_board.proofs.EarlierLemmas.{IsRefereeKept-grown, states_of-grown}
use Rattle.go_board.proofs.TurnLemmas.{reason_of-new}
use Rattle.go_board.proofs.referee.Referee.play_at_once.Goals as goal

pub invariant_of-self-2 : goal.invariant_of-self-2
invariant_of-self-2 g c =
    let was = c.self.inside in
    let past = g.P.Past.held was.past in
    let made = play (newest_grid past) c.args.colour c.in-Stone.point in
    let now : g.P.Past.held c.play_at_once.new.self ≡ with_next past made false = c.if-not-play_at_once.ensures.played refl in
    let items : c.push_reserved.new.self.items ≡ was.earlier.items ++ record { mover = was.mover; call = Call.Stone } ∷ [] = search rules in
    IsRefereeKept-grown past was.mover was.turns was.earlier.items Call.Stone refl
    (was.turns + 1) (omega arith) c.self.invariant (g.P.Past.held c.play_at_once.new.self) made false c.after-self-inside.result c.push_reserved.new.self.items now (side_play (newest_grid past) c.args.colour c.in-Stone.point) items

pub returns-clause-legal : goal.returns-clause-legal
returns-clause-legal g c = λ _.
    ap (reason_of c.args.self.now.present c.args.colour) c.in-Stone.is
    ∙ reason_of-new c.args.self.now.present c.args.colour c.in-Stone.point _ _ (ap (λ (states : States). states.present.seen) c.self.view_is)
    (ap (λ (states : States). play states.present.colouring c.args.colour c.in-Stone.point) c.self.view_is) c.in_default-reason_before_repeat.ensures.only_repeat (c.if-not-play_at_once.ensures.new refl)

-- these two are only there for speed
pub overflow_add-self : goal.overflow_add-self
overflow_add-self g c = omega (arith, rw length-reverse at c.self.invariant.few_turns)

pub returns-clause-taken : goal.returns-clause-taken
returns-clause-taken g c = λ _.
    let was = c.self.inside in
    let past = g.P.Past.held was.past in
    let now : g.P.Past.held c.play_at_once.new.self ≡ with_next past (play (newest_grid past) c.args.colour c.in-Stone.point) false = c.if-not-play_at_once.ensures.played refl in
    let items : c.push_reserved.new.self.items ≡ was.earlier.items ++ record { mover = was.mover; call = Call.Stone } ∷ [] = search rules in
    rw (sym c.self.view_is, c.in-Stone.is)
    (states_of-grown past was.mover was.turns was.earlier.items Call.Stone refl (was.turns + 1) (omega arith) _ _ false _ _ now items
    ∙ simp (c.after-self-inside.ensures.player, c.after-self-inside.ensures.passes, c.opponent.ensures))
