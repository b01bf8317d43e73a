-- One node more is judged, and told if its step is taken, until all are, or the verdict is known.
use Rattle.judged_lines.proofs.Common.{nil_from_length, NextNode, IsTakenOff, Node, Grid, State, LegalStep, after, ComesAs, IsStepFrom, IsUndecided, Judging, common_steps, ◌≡◌, Bor, Option, Some, None, [], ◌∷◌, OnErr, Result, refl, sym, ap, subst, ◌∙◌, arith, rules, IsSome, option_copied, eqb-true}
use Rattle.sgf_outline.specs.NodesLeft.{NodesLeft}
use Rattle.judged_lines.proofs.Gathered.{comes, setup_names}
use Rattle.judged_lines.proofs.JudgedLines.{TookOne, countable, ends, refuses, said, starts, step_taken, stops, unsaid}
use Rattle.judged_lines.proofs.Judgements.{board_after, decided_by, undecided_by}
use Rattle.judged_lines.proofs.judging.judged.judge_sequence.Given.{Over}
use Rattle.judged_lines.proofs.judging.judged.judge_sequence.Goals as goal
use Rattle.judged_lines.proofs.judging.judged.judge_sequence.Goals.{In_ok-step}

on_err : {A E : Type 0} {P : Type 0} (r : Result A E) → P → OnErr r P
on_err r p = grind (arith, common_steps)

some : (board : Option (Bor Grid)) (state : State) → option_copied board ≡ Some state.colouring → IsSome board
some board state is = grind (arith, common_steps)

-- a node is taken off
abbrev IsNext : NodesLeft → NodesLeft → NextNode → Type 0
IsNext old new next = (node : Node) × (old.nodes ≡ node ∷ new.nodes) × IsTakenOff setup_names node new.properties next

-- the next node, and what is known of its step
module _ (g : Over) (c : In_ok-step g) where
  next : IsNext c.steps.nodes c.next.new.self c.unwrap-next.result
  next = rw c.unwrap-next.ensures at c.next.ensures

  abbrev node : Node
  node = next.0

  first : c.steps.nodes.nodes ≡ node ∷ c.take.new.nodes.nodes
  first = next.1 ∙ ap (λ nodes. node ∷ nodes) (sym c.in_ok-step.ensures.left)

  coming : ComesAs node c.next.new.self.properties c.unwrap-next.result
  coming = comes node c.next.new.self.properties c.unwrap-next.result next.2

  judged : c.take.new.self.judgement ≡ after c.steps.judge.judgement node
  judged = c.in_ok-step.ensures.judged node coming

  one : TookOne c.steps.judge c.steps.nodes.nodes node c.take.new.nodes.nodes c.take.new.self
  one = record { undecided = c.steps.invariant.undecided; first = first; judged = judged; plays = c.in_ok-step.ensures.plays }

  taken : (step : Option LegalStep) → c.in_ok-step.field-0 ≡ step → IsStepFrom c.steps.judge.judgement node step
  taken step is = subst (IsStepFrom c.steps.judge.judgement node) is (c.in_ok-step.ensures.step node coming)

pub steps-init : goal.steps-init
steps-init g c = search (rules, starts)

pub returns-clause-judged : goal.returns-clause-judged
returns-clause-judged g c kind before h = ends (c.steps.invariant.going kind before h) (nil_from_length c.steps.nodes.nodes (eqb-true _ _ (sym c.is_empty.ensures ∙ c.steps-test.false)))

pub take-requires-clause-countable : goal.take-requires-clause-countable
take-requires-clause-countable g c = search (rules, some, next, countable)

pub returns-in_err-step-clause-refused : goal.returns-in_err-step-clause-refused
returns-in_err-step-clause-refused g c kind before h =
    let plays = ap (λ (j : Judging). j.plays) c.in_err-step.ensures.unchanged in
    on_err c.from_residual.result (stops (c.steps.invariant.going kind before h) [] c.steps.nodes.nodes refl c.take.new.self.plays (omega (arith, plays), omega (arith, plays)))

pub returns-in_default-clause-judged : goal.returns-in_default-clause-judged
returns-in_default-clause-judged g c kind before h =
    let at = (goal.at.returns-in_default-clause-judged g c).In_ok-step in
    refuses (c.steps.invariant.going kind before h) (one g at) (taken g at None c.in_default.is)

pub returns-in_default-clause-decided : goal.returns-in_default-clause-decided
returns-in_default-clause-decided g c all =
    grind (arith, common_steps, judged g ((goal.at.returns-in_default-clause-decided g c).In_ok-step), taken g ((goal.at.returns-in_default-clause-decided g c).In_ok-step) None c.in_default.is, decided_by)

pub unwrap-requires : goal.unwrap-requires
unwrap-requires g c = grind (arith, common_steps, taken g ((goal.at.unwrap-requires g c).In_ok-step) (Some c.in-Some.step) c.in-Some.is, judged g ((goal.at.unwrap-requires g c).In_ok-step), some, board_after)

pub say-requires : goal.say-requires
say-requires g c =
    let at = (goal.at.say-requires g c).In_ok-step in
    let (kind, before, h) = c.requires.known in
    let going = c.steps.invariant.going kind before h in
    let known = taken g at (Some c.in-Some.step) c.in-Some.is in
    let there = rw c.unwrap.ensures at c.board.ensures in (
      kind,
      _,
      _,
      going.on.has_judged.taken,
      step_taken going (one g at) c.in-Some.step c.unwrap.result.now known there,
    )

pub returns-in_err-say-clause-refused : goal.returns-in_err-say-clause-refused
returns-in_err-say-clause-refused g c kind before h =
    let at = (goal.at.returns-in_err-say-clause-refused g c).In_ok-step in
    on_err c.from_residual-in_err-say.result
    (unsaid (c.steps.invariant.going kind before h) (one g at))

pub steps-preserved : goal.steps-preserved
steps-preserved g c =
    let at = (goal.at.steps-preserved g c).In_ok-step in
    let known = taken g at (Some c.in-Some.step) c.in-Some.is in
    let there = rw c.unwrap.ensures at c.board.ensures in
    record {
      going = λ kind before h.
          let going = c.steps.invariant.going kind before h in
          let step = step_taken going (one g at) c.in-Some.step c.unwrap.result.now known there in
          said going (one g at) c.in-Some.step c.unwrap.result.now known there (g.K.StepKeeper.tells c.say.new.self) (c.in_ok-say.ensures _ _ _ going.on.has_judged.taken step);
      undecided = subst IsUndecided (sym (judged g at)) (undecided_by c.steps.judge.judgement (node g at) known.0 known.1);
    }
