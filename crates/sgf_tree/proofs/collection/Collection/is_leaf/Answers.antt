use Rattle.std.proofs.Common.{eqb-true, eq-eqb}
use Rattle.sgf_tree.proofs.Leaves.{leaf_last, last_leaf}
use Rattle.sgf_tree.proofs.collection.Collection.is_leaf.Goals as goal

pub returns : goal.returns
returns c = (
  λ e. last_leaf c.args.self.now c.args.i c.last_below.result c.last_below.ensures (eqb-true _ _ e),
  λ leaf. eq-eqb _ _ (leaf_last c.args.self.now c.args.i c.last_below.result c.last_below.ensures leaf),
)
