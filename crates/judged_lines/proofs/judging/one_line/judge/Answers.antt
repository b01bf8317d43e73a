-- The cursor stands after the line that ends in the leaf.
use Rattle.judged_lines.proofs.Common.{◌≡◌, ◌+◌, arith, common_steps, before}
use Rattle.judged_lines.proofs.LineVerdicts.{some_before, judged_at}
use Rattle.judged_lines.proofs.judging.one_line.judge.Goals as goal
use Rattle.judged_lines.proofs.judging.one_line.judge.Goals.{In_ok-seek_leaf}

at_is : (c : In_ok-seek_leaf) → c.seek_leaf.new.self.at ≡ before c.args.collection.now (c.args.leaf + 1)
at_is c = rw (c.new-cursor.ensures, c.outline.ensures) at c.in_ok-seek_leaf.ensures.sought

pub judge_before-requires : goal.judge_before-requires
judge_before-requires c = grind (arith, common_steps, at_is (goal.at.judge_before-requires c).In_ok-seek_leaf, some_before)

pub returns : goal.returns
returns c = grind (arith, common_steps, judged_at, at_is)
