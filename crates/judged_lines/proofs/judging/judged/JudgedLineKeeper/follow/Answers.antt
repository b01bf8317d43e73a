-- One sequence more is judged, until all are, or the verdict is known.
use Rattle.judged_lines.proofs.Common.{Ok, ◌≡◌, ◌+◌, ◌++◌, ◌≤◌, List, length, take, drop, refl, sym, ap, ◌∙◌, length-append, arith, rules, length-drop, Node, nodes_before, nodes_in, game_kind, root_properties, common_steps, WentOn, next_part, none_after, rises_through}
use Rattle.judged_lines.proofs.JudgedLines.{Going, begun_front, countable, ends, finish, goes_on, decides, starts, stopped, stops}
use Rattle.judged_lines.proofs.Keeping.{judgement_kept, judging_front, taken_kept}
use Rattle.judged_lines.proofs.LegalNodes.{told_front}
use Rattle.judged_lines.proofs.LineVerdicts.{verdict_is}
use Rattle.judged_lines.proofs.judging.judged.JudgedLineKeeper.follow.Given.{Over}
use Rattle.judged_lines.proofs.judging.judged.JudgedLineKeeper.follow.Goals as goal
use Rattle.judged_lines.proofs.judging.judged.JudgedLineKeeper.follow.Goals.{After-sequences-end, After-nodes, In_ok-keep, then-held-eq0+in_ok-begin, else-held-eq0, then-not-is_decided+else-loop-index-test, then-not-is_decided+then-loop-index-test+in_ok-all+then-not-all, else-not-is_decided}

-- the front is no longer than the line
within : (g : Over) (c : After-sequences-end g) → c.args.held.nodes ≤ length (nodes_before c.args.cursor.now.at)
within g c = search (rules, rises_through, ends)

pub keep-requires : goal.keep-requires
keep-requires g c = omega (arith, within g (goal.at.keep-requires g c).After-sequences-end, c.len-nodes.ensures.nodes, c.len-nodes.ensures.small)

-- the front is judged
started : (g : Over) (c : In_ok-keep g) → (let line = nodes_before c.args.cursor.now.at in
    Going (g.K.StepKeeper.tells c.keep.new.self) (game_kind (root_properties line)) (take c.args.held.nodes line) (drop c.args.held.nodes line) (drop (nodes_in c.args.cursor.now.ends c.args.held.sequences) line) c.args.self.now.judge.plays c.if-held-eq0.self.judge)
started g c =
    let line = nodes_before c.args.cursor.now.at in
    let held = c.args.held.nodes in
    let judge = c.if-held-eq0.self.judge in
    let keeps = g.K.StepKeeper.tells c.args.self.now.keeper in
    let tells = g.K.StepKeeper.tells c.keep.new.self in
    let judged : (judge.judgement ≡ judging_front line held) × (judge.plays ≡ c.args.self.now.judge.plays) × (c.if-held-eq0.self.keeper ≡ c.args.self.now.keeper) =
    elim c.if-held-eq0.branch [
      | then-held-eq0+in_ok-begin w ↦ rw w.self-is (w.in_ok-begin.ensures.begun ∙ begun_front line w.root.result held w.root.ensures (omega (arith, w.if-held-eq0.true)), w.in_ok-begin.ensures.plays, refl)
      | else-held-eq0 w ↦ rw w.self-is (w.cut_back.ensures.judged ∙ judgement_kept _ c.args.cursor.now c.args.held c.requires.held keeps c.args.self.now.judge.judgement (λ old h. h.line) (omega (arith, w.if-held-eq0.false)), w.cut_back.ensures.plays, refl)
    ] in
    let told = told_front keeps tells line held judge.judgement judged.0 (rw c.board.ensures at c.in_ok-keep.ensures.begun) (rw judged.2 at c.in_ok-keep.ensures.kept)
    (taken_kept _ c.args.cursor.now c.args.held c.requires.held keeps c.args.self.now.judge.judgement (λ old h. h.line)) in
    starts (drop held line) _ _ judge (record { judged = judged.0; taken = told }) judged.1 (ap (λ k. drop k line) (sym c.requires.front.count))

pub loop-index-init : goal.loop-index-init
loop-index-init g c = record { going = started g (goal.at.loop-index-init g c).In_ok-keep; undecided = c.is_decided.ensures.undecided (search rules) }

-- the next sequence, and the nodes after it
module _ (g : Over) (c : After-nodes g) where
  abbrev rest : List Node
  rest = drop (nodes_in c.args.cursor.now.ends (c.loop-index.index + 1)) (nodes_before c.args.cursor.now.at)

  first : drop (nodes_in c.args.cursor.now.ends c.loop-index.index) (nodes_before c.args.cursor.now.at) ≡ c.nodes.result.nodes ++ rest
  first = grind (arith, common_steps, next_part)

pub judge_sequence-requires-clause-known : goal.judge_sequence-requires-clause-known
judge_sequence-requires-clause-known g c = (_, _, c.loop-index.invariant.going.on.has_judged)

pub judge_sequence-requires-clause-countable : goal.judge_sequence-requires-clause-countable
judge_sequence-requires-clause-countable g c =
    let at = (goal.at.judge_sequence-requires-clause-countable g c).After-nodes in
    let many = length-append c.nodes.result.nodes (rest g at) in
    omega (arith, countable c.loop-index.invariant.going, ap length (first g at), many, length-drop c.args.held.nodes (nodes_before c.args.cursor.now.at), c.requires.countable)

pub loop-index-preserved : goal.loop-index-preserved
loop-index-preserved g c =
    let at = (goal.at.loop-index-preserved g c).After-nodes in
    record {
      going = goes_on c.loop-index.invariant.going c.nodes.result.nodes (rest g at) (first g at) (g.K.StepKeeper.tells c.judge_sequence.new.keeper) c.judge_sequence.new.judge
          (c.in_ok-all.ensures.judged _ _ c.loop-index.invariant.going.on.has_judged);
      undecided = c.in_ok-all.ensures.undecided (search rules);
    }

pub returns-in_err-all-clause-plays : goal.returns-in_err-all-clause-plays
returns-in_err-all-clause-plays g c =
    let at = (goal.at.returns-in_err-all-clause-plays g c).After-nodes in
    let new = c.judge_sequence.new.judge.plays in
    stopped _ c.args.held.nodes (within g (goal.at.returns-in_err-all-clause-plays g c).After-sequences-end) _ _ new c.from_residual-in_err-all.ensures.0
    (stops c.loop-index.invariant.going c.nodes.result.nodes (rest g at) (first g at) new (c.in_err-all.ensures.refused _ _ c.loop-index.invariant.going.on.has_judged))

pub returns : goal.returns
returns g c =
    let at = goal.at.returns g c in
    let line = nodes_before c.args.cursor.now.at in
    let ends_at = c.args.cursor.now.ends in
    let held = c.args.held.nodes in
    let judge = c.if-not-is_decided.self.judge in
    let tells = g.K.StepKeeper.tells c.if-not-is_decided.self.keeper in
    let on : WentOn tells (game_kind (root_properties line)) (take held line) (drop held line) c.args.self.now.judge.plays judge = elim c.if-not-is_decided.branch [
      | then-not-is_decided+else-loop-index-test w ↦
          let last : w.loop-index.index ≡ length ends_at = omega (arith, w.loop-index-test.false, w.loop-index.auto.index-end, c.requires.front.more, c.sequences-end.ensures.count) in
          rw w.self-is (ends w.loop-index.invariant.going (none_after ends_at line (length line) w.loop-index.index c.sequences-end.ensures.divided refl last))
      | then-not-is_decided+then-loop-index-test+in_ok-all+then-not-all w ↦
          let rest = drop (nodes_in ends_at (w.loop-index.index + 1)) line in
          let first : drop (nodes_in ends_at w.loop-index.index) line ≡ w.nodes.result.nodes ++ rest = grind (arith, common_steps, next_part) in
          let on = goes_on w.loop-index.invariant.going w.nodes.result.nodes rest first (g.K.StepKeeper.tells w.judge_sequence.new.keeper) w.judge_sequence.new.judge
          (w.in_ok-all.ensures.judged _ _ w.loop-index.invariant.going.on.has_judged) in
          rw w.self-is (decides on (w.in_ok-all.ensures.decided (search rules)))
      | else-not-is_decided w ↦ rw w.self-is (decides (started g at.In_ok-keep) (c.is_decided.ensures.decided (search rules)))
    ] in
    let done = finish line held (within g at.After-sequences-end) (Ok tt) tells c.args.self.now.judge.plays judge on in
    record {
      holds = record {
        some = omega (arith, c.requires.front.more);
        line = rw c.verdict-self.ensures.unchanged done.judged;
        verdict_is = verdict_is line judge.judgement c.verdict-self.result c.verdict-self.ensures.told done.judged.judged;
      };
      plays = rw c.verdict-self.ensures.unchanged done.plays;
    }
