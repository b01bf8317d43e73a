use Rattle.go_board.proofs.Common.{◌≡◌, ◌↔◌, Some, IsErrOf, refl, subst, Illegal, Reason, reason_of, States}
use Rattle.go_board.proofs.referee.Referee.turn.Goals as goal

-- the call that took no turn changed nothing
pub returns-then-not-play_at_once-clause-illegal : goal.returns-then-not-play_at_once-clause-illegal
returns-then-not-play_at_once-clause-illegal g c = subst
    (λ (states : States). (r : Reason) → IsErrOf c.turn_in_full.result (Illegal r) ↔ (reason_of states.present c.args.colour c.args.play ≡ Some r))
    (c.if-not-play_at_once.ensures.unchanged refl) c.turn_in_full.ensures.illegal
