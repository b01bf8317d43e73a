use Rattle.std.proofs.Common.{sym, rules}
use Rattle.sgf_outline.proofs.Outlined.{IsEntryOf, entry-in}
use Rattle.sgf_outline.proofs.outline.Outline.sequence_outer.Goals as goal
use Rattle.sgf_outline.proofs.outline.Outline.sequence_outer.Goals.{After-outer}

entry : (c : After-outer) → IsEntryOf c.self.inside.text.now c.self.inside.sequences.segments.items c.args.self.now c.args.i c.index.result.now
entry c = entry-in c.self.inside.text.now c.self.inside.sequences c.self.invariant.0 _ c.self.view_is c.args.i c.index.result.now c.requires c.index.ensures

pub returns : goal.returns
returns c = (entry (goal.at.returns c).After-outer).outer_is c.in_ok-outer.outer (sym c.in_ok-outer.ensures)

pub returns-in_err-outer : goal.returns-in_err-outer
returns-in_err-outer c = let root = (entry (goal.at.returns-in_err-outer c).After-outer).root_is (sym c.in_err-outer.ensures) in search rules
