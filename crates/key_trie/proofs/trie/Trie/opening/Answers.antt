use Rattle.key_trie.proofs.Common.{◌≡◌, ◌∙◌, ap, arith, get_or_default, Node, child_at, no_node, node_at}
use Rattle.key_trie.proofs.TrieLemmas.{agree_back, agree_less, agree_on, end_opens}
use Rattle.key_trie.proofs.trie.Trie.opening.Goals as goal

pub returns-then-from-position-clause-opening : goal.returns-then-from-position-clause-opening
returns-then-from-position-clause-opening g c = λ width keys bits end trie descent before same part.
    let nodes = c.args.self.now.nodes.items in
    let from = c.args.from.node in
    let at : c.index.result.now ≡ node_at nodes from = c.index.ensures ∙ get_or_default nodes from c.index.result.now no_node c.requires.from in
    end_opens width keys c.args.self.now trie c.args.from descent c.args.position before (omega (arith, c.if-from-position.true, c.from.ensures, ap (λ (x : Node). x.depth) at)) part

pub returns-clause-opening : goal.returns-clause-opening
returns-clause-opening g c = λ width keys bits end trie descent before same part.
    let way = c.descend.ensures.way width keys trie in
    let under = way.way.all _ part.there (agree_on part.same (agree_back (agree_less c.args.position (omega arith) same))) in
    record { item = child_at c.args.self.now c.args.from; there = way.way.slot; low = way.way.low; under = under; stop = way.stop; part = part }
