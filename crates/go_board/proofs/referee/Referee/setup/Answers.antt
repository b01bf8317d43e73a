use Rattle.go_board.proofs.Common.{◌≡◌, ◌++◌, [], ◌∷◌, true, refl, arith, rules, common_steps, newest_grid, side-with_rectangles}
use Rattle.go_board.specs.declared.referee.Call.TheVariants.{Setup}
use Rattle.go_board.proofs.EarlierLemmas.{IsRefereeKept-grown}
use Rattle.go_board.proofs.TurnLemmas.{on_err}
use Rattle.go_board.proofs.referee.Referee.setup.Goals as goal

pub invariant_of-self-2 : goal.invariant_of-self-2
invariant_of-self-2 g c =
    let was = c.self.inside in
    let past = g.P.Past.held was.past in
    let items : c.push-2.new.self.items ≡ was.earlier.items ++ record { mover = was.mover; call = Setup } ∷ [] = search rules in
    IsRefereeKept-grown past was.mover was.turns was.earlier.items Setup refl
    was.turns (omega arith) c.self.invariant (g.P.Past.held c.set_up.new.self) _ true _ c.push-2.new.self.items c.in_ok-set_up.ensures.ok (side-with_rectangles (newest_grid past) c.args.ops.now) items

-- the rest is only there for speed
pub invariant_of-self : goal.invariant_of-self
invariant_of-self g c = rw c.in_err-push.ensures.items c.self.invariant

pub returns-in_err-push-clause-err : goal.returns-in_err-push-clause-err
returns-in_err-push-clause-err g c = on_err c.from_residual.result _ (rw c.in_err-push.ensures.items c.self.view_is)

pub invariant_of-self-in_err-reserve : goal.invariant_of-self-in_err-reserve
invariant_of-self-in_err-reserve g c = rw c.in_err-reserve.ensures.items c.self.invariant

pub returns-in_err-reserve-clause-err : goal.returns-in_err-reserve-clause-err
returns-in_err-reserve-clause-err g c = on_err c.from_residual-in_err-reserve.result _ (rw c.in_err-reserve.ensures.items c.self.view_is)

pub invariant_of-self-in_err-set_up : goal.invariant_of-self-in_err-set_up
invariant_of-self-in_err-set_up g c = rw (c.in_err-set_up.ensures.err, c.in_ok-reserve.ensures.items) c.self.invariant

pub returns-in_err-set_up-clause-err : goal.returns-in_err-set_up-clause-err
returns-in_err-set_up-clause-err g c = on_err c.from_residual-in_err-set_up.result _ (rw (c.in_err-set_up.ensures.err, c.in_ok-reserve.ensures.items) c.self.view_is)

-- these two by a search, since a term would name a step that a wrong body doesn't have
pub returns-then-is_empty-clause-ok : goal.returns-then-is_empty-clause-ok
returns-then-is_empty-clause-ok g c = grind (arith, common_steps)

pub returns-clause-ok : goal.returns-clause-ok
returns-clause-ok g c = grind (arith, common_steps)
