use Rattle.std.proofs.Common.{rules, refl}
use Rattle.byte_streams.proofs.source.ReadSourceSource.get.Goals as goal

-- both are written out though the prover needs no help: it then refuses a wrong body sooner
pub returns-in-Ok-clause-gets : goal.returns-in-Ok-clause-gets
returns-in-Ok-clause-gets g c = (
  search rules,
  record {
    never_failed = c.if-self-eq0.true;
    failures = refl;
    given = tt;
    to_come = c.in-Ok.ensures.bytes.0;
    none_at_end = search rules;
  },
)

pub returns-clause-gets : goal.returns-clause-gets
returns-clause-gets g c = record { failures = search rules; given = tt; to_come = search rules }
