-- The judge goes on by the nodes of the sequence, and the verdict isn't known yet.
use Rattle.judged_lines.proofs.Common.{List, length, Node, GameKind, HasJudged, IsUndecided}
use Rattle.judged_lines.proofs.JudgedLines.{Going}
use Rattle.judged_lines.proofs.judging.judged.judge_sequence.Given as goal

abbrev pub invariant-steps : goal.invariant-steps
invariant-steps g l = record {
  going : (kind : GameKind) (before : List Node) → HasJudged (g.K.StepKeeper.tells l.fn.keeper) kind before l.fn.judge.judgement
      → Going (g.K.StepKeeper.tells l.keeper) kind before l.fn.nodes.nodes l.nodes.nodes l.fn.judge.plays l.judge;
  undecided : IsUndecided l.judge.judgement;
}

abbrev pub decreases-steps : goal.decreases-steps
decreases-steps g l = length l.nodes.nodes
