-- How a judge goes on by some nodes of a line.
use Rattle.std.specs.Prelude.{◌≡◌, ℕ, ◌+◌, ◌-◌, List, ◌++◌, length}
use Rattle.sgf_outline.specs.Tree.{Node}
use Rattle.judged_lines.specs.JudgedGames.{GameKind}
use Rattle.judged_lines.specs.Verdict.{judged_on}
use Rattle.judged_lines.specs.Walk.{LegalNode}
use Rattle.judged_lines.specs.inner.Judging.{Judging}
use Rattle.judged_lines.specs.Keeping.{HasJudged}

-- how many nodes are judged of some that come after others
abbrev pub plays_for : GameKind → List Node → List Node → ℕ
plays_for kind before nodes = length (judged_on kind (before ++ nodes)) - length (judged_on kind before)

-- a judge went on by these nodes, after others; until then there were `old` plays
pub record WentOn (holds : GameKind → List LegalNode → Type 0) (kind : GameKind) (before nodes : List Node) (old : ℕ) (judge : Judging) : Type 0 where
  pub has_judged : HasJudged holds kind (before ++ nodes) judge.judgement
  pub plays : judge.plays ≡ old + plays_for kind before nodes
