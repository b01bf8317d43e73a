use Rattle.sgf_tree.proofs.Common.{◌≡◌, ◌≤◌, ◌+◌, slice_range, subst, arith, rules, name_in, Copies, copies-none, copies-then, span-none}
use Rattle.sgf_tree.proofs.NameEnds.{name-capital, name-small, name-join}
use Rattle.sgf_tree.proofs.reader.properties.copy_capitals.Goals as goal
use Rattle.sgf_tree.proofs.reader.properties.copy_capitals.Goals.{then-capital_at+in_ok-segment, else-capital_at}

pub letters-init : goal.letters-init
letters-init g c = search (rules, span-none)

pub letters-preserved : goal.letters-preserved
letters-preserved g c =
    let t = c.args.text.now in
    let keeps = g.K.Visitor.keeps t in
    let at = c.letters.at in
    let so_far = c.letters.invariant in
    let next = c.if-capital_at.segment in
    let kept = keeps c.letters.visitor in
    let letter : (next.start ≤ next.end) × (next.end ≤ at + 1) × Copies kept (keeps c.if-capital_at.visitor) t c.letters.segment next (name_in (slice_range t at (at + 1))) =
    elim c.if-capital_at.branch [
      | then-capital_at+in_ok-segment w ↦
          let is = w.in_ok-segment.ensures in
          rw (w.segment-is, w.visitor-is)
          (is.rises, omega (arith, is.end), subst (Copies kept (keeps w.then.new.visitor) t c.letters.segment w.in_ok-segment.segment) (name-capital t at (omega arith) (c.capital_at.ensures.stands w.if-capital_at.true).1) (is.copied t (omega arith)))
      | else-capital_at w ↦
          rw (w.segment-is, w.visitor-is) (so_far.rises, omega (arith, so_far.after), search (rules, name-small, copies-none))
    ] in
    record {
      low = omega (arith, so_far.low);
      high = omega arith;
      rises = letter.0;
      after = letter.1;
      copied =
          subst (Copies (keeps c.args.visitor.now) (keeps c.if-capital_at.visitor) t c.args.segment next) (name-join t c.args.from at (at + 1) so_far.low (omega arith))
          (copies-then (keeps c.args.visitor.now) kept (keeps c.if-capital_at.visitor) t c.args.segment c.letters.segment next _ _ so_far.copied letter.2);
    }

pub returns-clause-copied : goal.returns-clause-copied
returns-clause-copied g c =
    let t = c.args.text.now in
    let keeps = g.K.Visitor.keeps t in
    let same : c.letters.at ≡ c.args.to = omega (arith, c.letters.invariant.high) in
    subst (λ i. Copies (keeps c.args.visitor.now) (keeps c.letters.visitor) t c.args.segment c.letters.segment (name_in (slice_range t c.args.from i))) same c.letters.invariant.copied
