use Rattle.sgf_tree.proofs.Common.{subst, arith, Copies, bracket-here}
use Rattle.sgf_tree.proofs.NameEnds.{name-after, name-faulty, name-read, capitals-are}
use Rattle.sgf_tree.proofs.reader.properties.read_name.Goals as goal

pub returns-in-Some-clause-read : goal.returns-in-Some-clause-read
returns-in-Some-clause-read g c =
    let t = c.args.text.now in
    let keeps = g.K.Visitor.keeps t in
    let start = c.args.before.end in
    let end = c.in-Some.end in
    let name = c.in-Some.ensures in
    let Wrote = Copies (keeps c.args.visitor.now) (keeps c.then.new.visitor) t c.args.before.segment c.in_ok-segment.segment in
    record {
      rises = c.in_ok-segment.ensures.rises;
      after = omega (arith, c.in_ok-segment.ensures.end);
      name = name-read Wrote t start end end c.requires.within c.requires.capital name.letters (bracket-here t end name.bracket) name.bracket
          (subst Wrote (capitals-are t start end name.capitals) (c.in_ok-segment.ensures.copied t (omega (arith, name.bracket.within))));
    }

pub returns-then-not-stands_at-clause-fault : goal.returns-then-not-stands_at-clause-fault
returns-then-not-stands_at-clause-fault g c n h =
    let t = c.args.text.now in
    let end = c.skip_white_space-end in
    name-faulty t end.result n _
    (name-after t c.args.before.end c.letters_end-text_end.result end.result n c.requires.within c.requires.capital c.letters_end-text_end.ensures end.ensures h)
    end.ensures.within (c.stands_at.ensures.other c.if-not-stands_at.true)

pub returns-clause-read : goal.returns-clause-read
returns-clause-read g c =
    let (within, bracket) = c.stands_at.ensures.stands c.if-not-stands_at.false in
    let segment = c.in_ok-segment-2.ensures in
    record {
      rises = segment.rises;
      after = omega (arith, segment.end, c.skip_white_space-end.ensures.rises);
      name = name-read _ c.args.text.now c.args.before.end c.letters_end-text_end.result c.skip_white_space-end.result c.requires.within c.requires.capital
          c.letters_end-text_end.ensures c.skip_white_space-end.ensures (record { within = within; bracket = bracket }) segment.copied;
    }
