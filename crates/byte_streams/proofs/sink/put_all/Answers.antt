-- The put went on after the bytes that were taken.
use Rattle.std.proofs.Common.{List, ℕ, subst, arith, length-drop, take_all}
use Rattle.std.specs.Io.KnownBytes.{Appends}
use Rattle.std.proofs.lemmas.Grind.{common_steps}
use Rattle.byte_streams.proofs.SliceStreams.{goes_on}
use Rattle.byte_streams.proofs.sink.put_all.Goals as goal

pub puts-preserved : goal.puts-preserved
puts-preserved g c = grind (arith, common_steps, goes_on, length-drop)

pub returns : goal.returns
returns g c =
    let old = (g.T.Sink.state c.args.sink.now).taken in
    let l = c.puts in
    (subst (λ (xs : List ℕ). Appends old (g.T.Sink.state l.sink).taken xs) (take_all l.done c.args.bytes.now (omega (arith, c.puts-test.false))) l.invariant.takes, l.invariant.failures)
