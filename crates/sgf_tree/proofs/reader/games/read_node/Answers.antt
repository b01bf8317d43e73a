use Rattle.sgf_tree.proofs.Common.{◌≡◌, ◌+◌, refl, ap, subst, arith, rules, err_from_is_err_and, OwnNodes, Copies, NodesRead, AreNodesRead, ArePropertiesRead}
use Rattle.sgf_tree.proofs.OwnRead.{parts-copied, read-node, own-more}
use Rattle.sgf_tree.proofs.reader.games.read_node.Goals as goal

pub returns-clause-read : goal.returns-clause-read
returns-clause-read g c =
    let t = c.args.text.now in
    let keeps = g.K.Visitor.keeps t in
    let before = c.args.before in
    let begun = c.in_ok-own in
    let read = c.in_ok-properties in
    let segment = read.properties.segment in
    let same : c.near_nodes.new.visitor ≡ c.args.visitor.now = search rules in
    let kept = keeps c.near_nodes.new.visitor in
    let told = keeps c.take_node.new.visitor in
    let after = keeps c.read_properties.new.visitor in
    let own : OwnNodes = record { first = begun.own.first; last = begun.own.last; count = begun.own.count; segment = segment } in
    let next : NodesRead = record { own = own; end = read.properties.end } in
    let Wrote = Copies told after t begun.own.segment segment in
    let properties : ArePropertiesRead Wrote t (before.end + 1) segment.end read.properties.end = subst (λ i. ArePropertiesRead Wrote t i segment.end read.properties.end) begun.ensures.end read.ensures.read in
    subst (λ w. AreNodesRead (keeps w) after t before next) same
    (own-more t kept after before next Wrote segment.end c.requires.begins.inside c.requires.begins.begins properties
    (parts-copied t before.end c.requires.begins.inside c.requires.begins.begins kept after before.own.segment segment told begun.own.segment
    (begun.ensures.copied t (omega (arith, c.requires.begins.inside))))
    (ap (λ (o : OwnNodes). record { first = o.first; last = o.last; count = o.count; segment = segment }) begun.ensures.taken) refl)

pub returns-in_err-properties-clause-fault : goal.returns-in_err-properties-clause-fault
returns-in_err-properties-clause-fault g c = search (rules, err_from_is_err_and, read-node)
