-- The parts of a verdict are put from its last to its first.
use Rattle.sgf_lines.proofs.Common.{append_assoc, arith, rules, common_steps}
use Rattle.sgf_lines.proofs.form.text_row.TextRow.put_verdict.Goals as goal

pub returns-in-Illegal-clause-text : goal.returns-in-Illegal-clause-text
returns-in-Illegal-clause-text c = search (rules, append_assoc)

pub returns-in-NotGo-clause-text : goal.returns-in-NotGo-clause-text
returns-in-NotGo-clause-text c = rw c.in-NotGo.is c.put-in-NotGo.ensures.text

pub returns-in-BadSize-clause-text : goal.returns-in-BadSize-clause-text
returns-in-BadSize-clause-text c = rw c.in-BadSize.is c.put-in-BadSize.ensures.text

pub returns-after-over-clause-text : goal.returns-after-over-clause-text
returns-after-over-clause-text c = grind (arith, common_steps)
