use Rattle.std.proofs.Common.{◌++◌, ◌∷◌, [], arith}
use Rattle.sgf_outline.proofs.Copying.{copied-as}
use Rattle.sgf_tree.proofs.reader.own_nodes.take_node.Goals as goal

pub returns-clause-copied : goal.returns-clause-copied
returns-clause-copied g c text within k places first written is =
    let place = c.args.place in
    c.in_ok-segment.ensures.copied text within k (places ++ place ∷ []) first written
    (copied-as _ _ text first c.args.own.segment written (λ told held. c.in_ok-node.ensures.kept text k (record { places = places; told = told }) held (omega (arith, within, c.requires.some))) is)
