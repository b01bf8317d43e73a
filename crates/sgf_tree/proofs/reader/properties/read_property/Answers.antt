use Rattle.sgf_tree.proofs.Common.{rules, ◌+◌, sym, subst, arith, Copies, IsPropertyRead, copies-none, copies-then}
use Rattle.sgf_tree.proofs.Points.{points-read, values-run}
use Rattle.sgf_tree.proofs.ShortProperties.{property-read}
use Rattle.sgf_tree.proofs.ValuesRead.{After, after-none, values-as, values-begin, values-more}
use Rattle.sgf_tree.proofs.reader.properties.read_property.Goals as goal

pub values-init : goal.values-init
values-init g c = search (rules, values-begin, copies-none)

pub returns-then-not-stands_at-clause-read : goal.returns-then-not-stands_at-clause-read
returns-then-not-stands_at-clause-read g c =
    let t = c.args.text.now in
    let keeps = g.K.Visitor.keeps t in
    let start = c.args.before in
    let name = c.in_ok-read.read in
    let read = c.values.read in
    let so_far = c.values.invariant in
    let next = c.in_ok-segment.segment in
    let close = c.in_ok-value_end.field-0 in
    let end = c.skip_white_space-end in
    let values_read = c.in_ok-value_end.ensures.read in
    let value = values_read.ends in
    let Named = Copies (keeps c.args.visitor.now) (keeps c.read_name.new.visitor) t start.segment name.segment in
    let Valued = Copies (keeps c.read_name.new.visitor) (keeps c.then.new.visitor) t name.segment next in
    let Wrote = Copies (keeps c.args.visitor.now) (keeps c.then.new.visitor) t start.segment next in
    let values = values-run t (Copies (keeps c.read_name.new.visitor) (keeps c.values.visitor) t name.segment read.segment) Valued name.end read.end values_read.last close end.result
    so_far.so_far values_read.points values_read.stands value end.ensures
    (λ w h. copies-then (keeps c.read_name.new.visitor) (keeps c.values.visitor) (keeps c.then.new.visitor) t name.segment read.segment next w _ h (c.in_ok-segment.ensures.copied t (omega (arith, value.within)))) in
    subst (λ i. IsPropertyRead Wrote t start.end i end.result) (sym c.in_ok-segment.ensures.end)
    (property-read Named Valued Wrote t start.end name.end (close + 1) end.result c.in_ok-read.ensures.read.name values
    (omega (arith, so_far.so_far.rises, values_read.points.ends, value.rises)) end.ensures (c.stands_at.ensures.other c.if-not-stands_at.true)
    (copies-then (keeps c.args.visitor.now) (keeps c.read_name.new.visitor) (keeps c.then.new.visitor) t start.segment name.segment next))

pub values-preserved : goal.values-preserved
values-preserved g c =
    let t = c.args.text.now in
    let keeps = g.K.Visitor.keeps t in
    let name = c.in_ok-read.read in
    let read = c.values.read in
    let so_far = c.values.invariant in
    let next = c.in_ok-segment.segment in
    let end = c.skip_white_space-end in
    let values_read = c.in_ok-value_end.ensures.read in
    let value = values_read.ends in
    let (within, bracket) = c.stands_at.ensures.stands c.if-not-stands_at.false in
    let Valued = Copies (keeps c.read_name.new.visitor) (keeps c.then.new.visitor) t name.segment next in
    let values = values-run t (Copies (keeps c.read_name.new.visitor) (keeps c.values.visitor) t name.segment read.segment) Valued name.end read.end values_read.last c.in_ok-value_end.field-0 end.result
    so_far.so_far values_read.points values_read.stands value end.ensures
    (λ w h. copies-then (keeps c.read_name.new.visitor) (keeps c.values.visitor) (keeps c.then.new.visitor) t name.segment read.segment next w _ h (c.in_ok-segment.ensures.copied t (omega (arith, value.within)))) in
    record {
      rises = c.in_ok-segment.ensures.rises;
      after = omega (arith, c.in_ok-segment.ensures.end, end.ensures.rises);
      stands = record { within = within; bracket = bracket };
      so_far = values-more t Valued name.end end.result values within bracket;
      kept = values_read.kept;
    }

pub returns-in_err-value_end-clause-fault : goal.returns-in_err-value_end-clause-fault
returns-in_err-value_end-clause-fault g c =
    let t = c.args.text.now in
    let keeps = g.K.Visitor.keeps t in
    let from = c.values.read.end in
    let Wrote = Copies (keeps c.read_name.new.visitor) (keeps c.values.visitor) t c.in_ok-read.read.segment c.values.read.segment in
    let fault = c.in_err-value_end.ensures.fault in
    let so_far = points-read t Wrote from c.in_ok-read.read.end from fault.last (omega arith)
    (values-as t Wrote (After Wrote t from from) c.in_ok-read.read.end from (after-none Wrote t from) c.values.invariant.so_far) fault.points fault.stands in
    search (rules, so_far, fault.in_value)
