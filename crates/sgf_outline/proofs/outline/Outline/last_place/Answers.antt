use Rattle.sgf_outline.proofs.Outlined.{entry-in}
use Rattle.sgf_outline.proofs.outline.Outline.last_place.Goals as goal

pub returns : goal.returns
returns c = (entry-in c.self.inside.text.now c.self.inside.sequences c.self.invariant.0 _ c.self.view_is c.args.i c.index.result.now c.requires c.index.ensures).last_is
