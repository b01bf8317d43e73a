-- The judge goes on by the sequences after the front, and the verdict isn't known yet.
use Rattle.judged_lines.proofs.Common.{drop, take, nodes_before, nodes_in, game_kind, root_properties, IsUndecided}
use Rattle.judged_lines.proofs.JudgedLines.{Going}
use Rattle.judged_lines.proofs.judging.judged.JudgedLineKeeper.follow.Given as goal

abbrev pub invariant-loop-index : goal.invariant-loop-index
invariant-loop-index g l =
    let line = nodes_before l.cursor.at in
    let held = l.fn.held.nodes in
    record {
      going : Going (g.K.StepKeeper.tells l.self.keeper) (game_kind (root_properties line)) (take held line) (drop held line) (drop (nodes_in l.cursor.ends l.index) line) l.fn.self.judge.plays l.self.judge;
      undecided : IsUndecided l.self.judge.judgement;
    }
