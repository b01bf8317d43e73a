-- No more bytes are asked for at once than may be. What the last call gave is not always kept.
use Rattle.std.proofs.Common.{◌++◌, ◌∙◌, take, refl, arith, length-append, rules, length-take-le}
use Rattle.std.proofs.KnownBytes.{Appends-kept, Appends-trans, Consumes-kept, Consumes-trans}
use Rattle.std.proofs.lemmas.Result.{err_from_is_err_and}
use Rattle.std.proofs.lemmas.Grind.{common_steps}
use Rattle.sgf_lines.proofs.run.read_all.Goals as goal

pub read-init : goal.read-init
read-init g c = record { bound = search rules; room = omega arith; has_read = search rules; end_answers = omega arith }

pub returns-then-len-count-clause-answer : goal.returns-then-len-count-clause-answer
returns-then-len-count-clause-answer g c =
    let start = g.S.Source.state c.args.source.now in
    let now = g.S.Source.state c.read.source in
    let new = g.S.Source.state c.get.new.self in
    let text = c.read.text.items in
    let read = c.read.invariant.has_read in
    let gave = c.in-Ok.ensures.gets in
    let more = take c.in-Ok.count c.get.new.buffer in
    record {
      given = text ++ more;
      gives = Appends-trans start.given now.given new.given text more read.gives gave.1.given;
      consumes = Consumes-trans start.to_come now.to_come new.to_come text more read.consumes gave.1.to_come;
      answers = (
        omega (arith, length-append text more, length-take-le c.in-Ok.count c.get.new.buffer gave.0, c.len.ensures, c.if-len-count.true, c.read.text.ok.0),
        omega (arith, length-append text more, length-take-le c.in-Ok.count c.get.new.buffer gave.0, gave.0, c.get.auto.buffer, c.read.invariant.bound, c.read.invariant.room, c.read.text.ok.0),
      );
    }

pub returns-in_err-extend_from_slice-clause-answer : goal.returns-in_err-extend_from_slice-clause-answer
returns-in_err-extend_from_slice-clause-answer g c =
    let start = g.S.Source.state c.args.source.now in
    let now = g.S.Source.state c.read.source in
    let new = g.S.Source.state c.get.new.self in
    let text = c.read.text.items in
    let read = c.read.invariant.has_read in
    let gave = c.in-Ok.ensures.gets in
    let more = take c.in-Ok.count c.get.new.buffer in
    let p = err_from_is_err_and c.from_residual.result c.from_residual.ensures.1 in
    rw (p.1, p.2)
    (record {
      given = text ++ more;
      gives = Appends-trans start.given now.given new.given text more read.gives gave.1.given;
      consumes = Consumes-trans start.to_come now.to_come new.to_come text more read.consumes gave.1.to_come;
      answers = (omega (arith, length-append text more, length-take-le c.in-Ok.count c.get.new.buffer gave.0, c.len.ensures, c.if-len-count.false, c.read.text.ok.0), refl);
    })

pub returns-in_default-clause-answer : goal.returns-in_default-clause-answer
returns-in_default-clause-answer g c = search (rules, Appends-kept, Consumes-kept)

pub returns-then-count-eq0-clause-answer : goal.returns-then-count-eq0-clause-answer
returns-then-count-eq0-clause-answer g c = search (rules, Appends-trans, Consumes-trans, length-append, length-take-le)

pub read-preserved : goal.read-preserved
read-preserved g c = record {
  bound = grind (arith, common_steps, length-append, length-take-le);
  room = omega arith;
  has_read =
      let gave = c.in-Ok.ensures.gets.1 in
      let read = c.read.invariant.has_read in
      rw c.in_ok-extend_from_slice.ensures.items
      (record { gives = Appends-trans _ _ _ _ _ read.gives gave.given; consumes = Consumes-trans _ _ _ _ _ read.consumes gave.to_come; failures = gave.failures ∙ read.failures });
  end_answers = omega (arith, c.in-Ok.ensures.end_answers);
}
