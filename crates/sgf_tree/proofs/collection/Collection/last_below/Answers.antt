use Rattle.sgf_tree.proofs.Common.{◌≡◌, ◌≤◌, ◌<◌, ◌+◌, get_or, length, refl, ap, subst, arith, slice_get, Some, common_steps, slice_get_read, IsLastBelow, node_count, lasts, starts-are}
use Rattle.sgf_tree.proofs.LastBelow.{lasts-below}
use Rattle.sgf_tree.proofs.Stacks.{length-lasts}
use Rattle.sgf_tree.proofs.collection.Collection.last_below.Goals as goal

pub index-requires : goal.index-requires
index-requires c = grind (arith, common_steps, length-lasts, starts-are)

pub returns : goal.returns
returns c =
    let s = c.self.inside in
    let k = c.sequence_of.result in
    let in_sequence = c.sequence_of.ensures in
    let is : slice_get (lasts 0 s.outline) k ≡ Some c.index.result.now =
    subst (λ ls. slice_get ls k ≡ Some c.index.result.now) c.self.invariant.1
    (slice_get_read s.last_nodes.items (length s.last_nodes.items) k c.index.result.now refl
    (omega (arith, in_sequence.within, ap length c.self.invariant.1, length-lasts 0 0 s.outline, ap length (starts-are s.outline))) c.index.ensures) in
    subst (λ g. IsLastBelow g c.args.i c.index.result.now) c.self.view_is
    (lasts-below s.outline k c.index.result.now c.args.i
    (subst (λ ns. get_or ns k 0 ≤ c.args.i) (starts-are s.outline) in_sequence.start)
    (subst (λ ns. c.args.i < get_or ns (k + 1) (node_count s.outline)) (starts-are s.outline) in_sequence.end) is)
