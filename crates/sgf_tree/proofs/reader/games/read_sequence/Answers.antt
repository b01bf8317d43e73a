use Rattle.std.proofs.Common.{arith, rules}
use Rattle.sgf_tree.proofs.OwnRead.{read-faulty, own-start, own-game, own-done}
use Rattle.sgf_tree.proofs.reader.games.read_sequence.Goals as goal

pub nodes-init : goal.nodes-init
nodes-init g c = search (rules, own-start)

pub nodes-preserved : goal.nodes-preserved
nodes-preserved g c = record { so_far = λ k after held. c.in_ok-read.ensures.read.more c.args.at k (c.nodes.invariant.so_far k after held); long = c.in_ok-read.ensures.long }

pub returns-then-read-eq0-clause-fault : goal.returns-then-read-eq0-clause-fault
returns-then-read-eq0-clause-fault g c k after held =
    let own = c.nodes.invariant.so_far k after held in
    read-faulty c.args.text.now c.args.at k after c.nodes.read.end own.nodes own.to (omega (arith, own.are.counted, c.if-read-eq0.true)) (c.stands_at.ensures.other c.nodes-test.false)

pub own_nodes-requires-clause-few : goal.own_nodes-requires-clause-few
own_nodes-requires-clause-few g c =
    let t = c.args.text.now in
    let (k, after, held, few) = c.requires.opened in
    let own = c.nodes.invariant.so_far k after held in
    let game = own-game t (g.K.Visitor.keeps t c.nodes.visitor) c.args.at k c.nodes.read own (omega (arith, c.if-read-eq0.false)) in
    (t, k, game.game, game.are, game.copied, omega (arith, few, own.few))

pub returns-clause-read : goal.returns-clause-read
returns-clause-read g c k after held few =
    let t = c.args.text.now in
    let keeps = g.K.Visitor.keeps t in
    own-done t (keeps c.nodes.visitor) c.args.at k c.nodes.read (c.nodes.invariant.so_far k after held) (keeps c.own_nodes.new.self) (omega (arith, c.if-read-eq0.false))
    (c.stands_at.ensures.other c.nodes-test.false) (c.in_ok-own_nodes.ensures.kept t) few
