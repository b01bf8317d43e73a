use Rattle.sgf_outline.proofs.Common.{◌≡◌, ◌+◌, ◌∙◌, arith, rules, common_steps, sequence_end}
use Rattle.sgf_outline.proofs.Outlined.{table_length, entry-in, sequence-some, sequence-within, next-start, last-end}
use Rattle.sgf_outline.proofs.outline.Outline.sequence_end.Goals as goal
use Rattle.sgf_outline.proofs.outline.Outline.sequence_end.Goals.{After-index, Else-i-len}

-- it begins the next sequence
next : (c : After-index) → c.index.result.now.number ≡ sequence_end c.args.self.now c.args.i
next c =
    (entry-in c.self.inside.text.now c.self.inside.sequences c.self.invariant.0 _ c.self.view_is (c.args.i + 1) c.index.result.now
    (omega (arith, c.if-i-len.true, c.len.ensures, table_length c.self.inside.text.now c.self.inside.sequences c.self.invariant.0 _ c.self.view_is)) c.index.ensures).number_is
    ∙ next-start c.args.self.now c.args.i (omega (arith, c.if-i-len.true, c.len.ensures, table_length c.self.inside.text.now c.self.inside.sequences c.self.invariant.0 _ c.self.view_is))

-- all nodes are before its end
all : (c : Else-i-len) → c.self.inside.sequences.nodes ≡ sequence_end c.args.self.now c.args.i
all c = grind (arith, common_steps, last-end, table_length)

pub returns-then-i-len-clause-end : goal.returns-then-i-len-clause-end
returns-then-i-len-clause-end c = next (goal.at.returns-then-i-len-clause-end c).After-index

pub returns-then-i-len-clause-some : goal.returns-then-i-len-clause-some
returns-then-i-len-clause-some c = search (rules, next, sequence-some)

pub returns-then-i-len-clause-within : goal.returns-then-i-len-clause-within
returns-then-i-len-clause-within c = search (rules, next, sequence-within)

pub returns-else-i-len-clause-end : goal.returns-else-i-len-clause-end
returns-else-i-len-clause-end c = all (goal.at.returns-else-i-len-clause-end c).Else-i-len

pub returns-else-i-len-clause-some : goal.returns-else-i-len-clause-some
returns-else-i-len-clause-some c = search (rules, all, sequence-some)
