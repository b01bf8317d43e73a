use Rattle.sgf_outline.specs.FileOrder.{sequence_start}
use Rattle.sgf_outline.proofs.Outlined.{entry-in}
use Rattle.sgf_outline.proofs.outline.Outline.first_node.Goals as goal

pub node_at-requires : goal.node_at-requires
node_at-requires c = (
  sequence_start c.args.self.now c.args.i,
  (entry-in c.self.inside.text.now c.self.inside.sequences c.self.invariant.0 _ c.self.view_is c.args.i c.index.result.now c.requires c.index.ensures).first_is,
)

pub returns : goal.returns
returns c = c.node_at.ensures (sequence_start c.args.self.now c.args.i) (entry-in c.self.inside.text.now c.self.inside.sequences c.self.invariant.0 _ c.self.view_is c.args.i c.index.result.now c.requires c.index.ensures).first_is
