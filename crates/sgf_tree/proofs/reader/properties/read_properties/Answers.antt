use Rattle.sgf_tree.proofs.Common.{sym, subst, arith, rules, err_from_is_err_and, Copies, StandsIn, copies-none, copies-then}
use Rattle.sgf_tree.proofs.NodeEnds.{node-name}
use Rattle.sgf_tree.proofs.ShortProperties.{ReadSoFar, so-far-begin, so-far-more, so-far-done}
use Rattle.sgf_tree.proofs.reader.properties.read_properties.Goals as goal

pub properties-init : goal.properties-init
properties-init g c = search (rules, so-far-begin, copies-none)

pub properties-preserved-in-Some : goal.properties-preserved-in-Some
properties-preserved-in-Some g c =
    let t = c.args.text.now in
    let keeps = g.K.Visitor.keeps t in
    let segment = c.args.segment in
    let before = c.properties.read in
    let text_end = c.in-Some.property.text_end in
    let end = c.in-Some.property.end in
    let next = c.in_ok-segment.segment in
    let (within, capital) = c.capital_at.ensures.stands c.properties-test.true in
    let All = Copies (keeps c.args.visitor.now) (keeps c.then.new.visitor) t segment next in
    let copied = c.in_ok-segment.ensures.copied t (omega (arith, c.in-Some.ensures.white_space.rises, c.in-Some.ensures.white_space.within)) in
    record {
      rises = c.in_ok-segment.ensures.rises;
      so_far =
          subst (λ i. ReadSoFar All t segment.end i end) (sym c.in_ok-segment.ensures.end)
          (so-far-more t segment.end (Copies (keeps c.args.visitor.now) (keeps c.properties.visitor) t segment before.segment) (StandsIn t before.end text_end) All
          before.segment.end before.end text_end end c.properties.invariant.so_far within capital c.in-Some.ensures
          (λ u v first same.
          copies-then (keeps c.args.visitor.now) (keeps c.properties.visitor) (keeps c.then.new.visitor) t segment before.segment next u v first
          (subst (Copies (keeps c.properties.visitor) (keeps c.then.new.visitor) t before.segment next) same copied)));
      kept = c.properties.invariant.kept;
    }

pub properties-preserved : goal.properties-preserved
properties-preserved g c =
    let t = c.args.text.now in
    let keeps = g.K.Visitor.keeps t in
    let segment = c.args.segment in
    let before = c.properties.read in
    let next = c.in_ok-read.read in
    let (within, capital) = c.capital_at.ensures.stands c.properties-test.true in
    record {
      rises = c.in_ok-read.ensures.rises;
      so_far =
          so-far-more t segment.end (Copies (keeps c.args.visitor.now) (keeps c.properties.visitor) t segment before.segment)
          (Copies (keeps c.properties.visitor) (keeps c.read_property.new.visitor) t before.segment next.segment)
          (Copies (keeps c.args.visitor.now) (keeps c.read_property.new.visitor) t segment next.segment)
          before.segment.end before.end next.segment.end next.end c.properties.invariant.so_far within capital c.in_ok-read.ensures.read
          (copies-then (keeps c.args.visitor.now) (keeps c.properties.visitor) (keeps c.read_property.new.visitor) t segment before.segment next.segment);
      kept = c.in_ok-read.ensures.kept;
    }

pub returns-in_err-read-clause-fault : goal.returns-in_err-read-clause-fault
returns-in_err-read-clause-fault g c =
    let p = err_from_is_err_and c.from_residual-in_err-read.result c.from_residual-in_err-read.ensures.1 in
    let (within, capital) = c.capital_at.ensures.stands c.properties-test.true in
    rw (p.1, p.2)
    (λ n none h. c.in_err-read.ensures.fault _ (node-name c.args.text.now c.properties.read.end _ (c.properties.invariant.so_far.reached n none h).1 within capital))

pub returns-clause-read : goal.returns-clause-read
returns-clause-read g c =
    let read = c.properties.read in
    so-far-done c.args.text.now c.args.segment.end _ read.segment.end read.end c.properties.invariant.so_far (c.capital_at.ensures.other c.properties-test.false)
