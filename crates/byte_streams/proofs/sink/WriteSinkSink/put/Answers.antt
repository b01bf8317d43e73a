use Rattle.std.proofs.Common.{rules}
use Rattle.byte_streams.proofs.sink.WriteSinkSink.put.Goals as goal

-- written out though the prover needs no help: it then refuses a wrong body sooner
pub returns-in-Ok : goal.returns-in-Ok
returns-in-Ok g c = search rules
