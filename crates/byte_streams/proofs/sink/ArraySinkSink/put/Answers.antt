-- What was taken is delivered at once.
use Rattle.std.proofs.Common.{refl, arith, rules}
use Rattle.std.proofs.lemmas.Grind.{common_steps}
use Rattle.byte_streams.proofs.SliceStreams.{takes_at_once}
use Rattle.byte_streams.proofs.sink.ArraySinkSink.put.Goals as goal

pub returns-clause-put : goal.returns-clause-put
returns-clause-put g c = (search rules, search rules, takes_at_once _ _ _ (search rules) refl (grind (arith, common_steps)) refl refl)

pub invariant_of-self : goal.invariant_of-self
invariant_of-self g c = record { within = c.args.self.now.within; full = λ _. omega arith }
