-- The step leads to the state that it added, or the refusal decides the verdict.
use Rattle.judged_lines.proofs.Common.{◌≡◌, Ok, Err, subst, rules, LegalStep, IsStepOf, step}
use Rattle.judged_lines.proofs.Gathered.{coming}
use Rattle.judged_lines.proofs.KeptScores.{scored_stepped}
use Rattle.judged_lines.proofs.Judgements.{side_stood, leads_to, leads_on, refused, leads_nowhere, untaken}
use Rattle.judged_lines.proofs.judging.judge.Judge.take.Goals as goal

pub returns-in-Ok-clause-judged : goal.returns-in-Ok-clause-judged
returns-in-Ok-clause-judged c node is = search (rules, leads_on)

pub returns-in-Ok-clause-step : goal.returns-in-Ok-clause-step
returns-in-Ok-clause-step c node is =
    let s = c.self.inside in
    let r = c.in-Some.game in
    let new = c.take_step.new.referee.present in (
      new,
      leads_to s.ended s.game r s.plays c.args.self.now c.self.view_is c.in-Some.is c.requires.undecided node new (c.in-Ok.ensures.stepped node is).0,
      subst (λ side. IsStepOf side node c.in-Ok.step) (side_stood s.ended s.game r s.plays c.args.self.now c.self.view_is c.in-Some.is) (c.in-Ok.ensures.told node is),
    )

pub returns-in-Err-Illegal-clause-judged : goal.returns-in-Err-Illegal-clause-judged
returns-in-Err-Illegal-clause-judged c node is =
    let s = c.self.inside in
    let refusal : (step c.in-Some.game.present node ≡ Err c.in-Err-Illegal.reason) × (c.take_step.new.referee ≡ c.in-Some.game) = rw c.in-Err-Illegal.field-0-is at (c.in-Err-Illegal.ensures.stepped node is) in
    refused s.ended s.game c.in-Some.game s.plays c.args.self.now c.self.view_is c.in-Some.is c.requires.undecided node c.in-Err-Illegal.reason c.turns-turn.result c.place_of-place.result c.take_step.new.referee
    refusal.0 refusal.1 c.turns-turn.ensures.value (c.place_of-place.ensures node c.args.nodes.now.properties is)

pub returns-in-Err-Illegal-clause-step : goal.returns-in-Err-Illegal-clause-step
returns-in-Err-Illegal-clause-step c node is =
    let s = c.self.inside in
    let refusal : (step c.in-Some.game.present node ≡ Err c.in-Err-Illegal.reason) × (c.take_step.new.referee ≡ c.in-Some.game) = rw c.in-Err-Illegal.field-0-is at (c.in-Err-Illegal.ensures.stepped node is) in
    leads_nowhere s.ended s.game c.in-Some.game s.plays c.args.self.now c.self.view_is c.in-Some.is c.requires.undecided node c.in-Err-Illegal.reason refusal.0

pub returns-in-Err-Memory-clause-unchanged : goal.returns-in-Err-Memory-clause-unchanged
returns-in-Err-Memory-clause-unchanged c =
    let s = c.self.inside in
    let some = coming c.args.nodes.now.properties c.args.next in
    let same : c.take_step.new.referee ≡ c.in-Some.game = rw c.in-Err-Memory.field-0-is at (c.in-Err-Memory.ensures.stepped some.0 some.1) in
    untaken s.ended s.game c.in-Some.game s.plays c.args.self.now c.self.view_is c.in-Some.is c.take_step.new.referee same

-- the score stays that of the board after the same nodes
pub invariant_of-self : goal.invariant_of-self
invariant_of-self c =
    let s = c.self.inside in
    let some = coming c.args.nodes.now.properties c.args.next in
    scored_stepped _ c.in-Some.game c.take_step.new.referee (Ok c.in-Ok.step) s.scored s.score (c.in-Ok.ensures.stepped some.0 some.1) (rw c.in-Some.is at c.self.invariant)

pub invariant_of-self-in-Err-Illegal : goal.invariant_of-self-in-Err-Illegal
invariant_of-self-in-Err-Illegal c =
    let s = c.self.inside in
    let some = coming c.args.nodes.now.properties c.args.next in
    scored_stepped {A = LegalStep} _ c.in-Some.game c.take_step.new.referee (Err _) s.scored s.score (c.in-Err-Illegal.ensures.stepped some.0 some.1) (rw c.in-Some.is at c.self.invariant)

pub invariant_of-self-in-Err-Memory : goal.invariant_of-self-in-Err-Memory
invariant_of-self-in-Err-Memory c =
    let s = c.self.inside in
    let some = coming c.args.nodes.now.properties c.args.next in
    scored_stepped {A = LegalStep} _ c.in-Some.game c.take_step.new.referee (Err _) s.scored s.score (c.in-Err-Memory.ensures.stepped some.0 some.1) (rw c.in-Some.is at c.self.invariant)
