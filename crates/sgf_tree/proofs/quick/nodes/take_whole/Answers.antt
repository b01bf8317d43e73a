use Rattle.sgf_tree.proofs.Common.{◌+◌, arith, NodesRead, StandsIn}
use Rattle.sgf_tree.proofs.OwnRead.{piece-copied, own-more}
use Rattle.sgf_tree.proofs.quick.nodes.take_whole.Goals as goal

pub returns-clause-taken : goal.returns-clause-taken
returns-clause-taken g c =
    let t = c.args.text.now in
    let before = c.args.before in
    let properties = c.args.properties in
    let begins = c.requires.begins in
    let is = c.requires.read in
    let own = c.in_ok-own in
    let after : NodesRead = record { own = own.own; end = properties.end } in
    let kept = g.K.Visitor.keeps t c.args.visitor.now in
    let keeps = g.K.Visitor.keeps t c.take_node.new.visitor in
    own-more t kept keeps before after (StandsIn t (before.end + 1) properties.text_end) properties.text_end begins.inside begins.begins is
    (piece-copied t before.end begins.inside begins.begins kept keeps before.own.segment own.own.segment properties.text_end is.rises
    (own.ensures.copied t (omega (arith, is.white_space.rises, is.white_space.within))))
    own.ensures.taken own.ensures.end
