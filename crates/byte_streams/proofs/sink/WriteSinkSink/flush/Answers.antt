use Rattle.std.proofs.Common.{rules}
use Rattle.byte_streams.proofs.sink.WriteSinkSink.flush.Goals as goal

-- written out though the prover needs no help: it then refuses a wrong body sooner
pub returns : goal.returns
returns g c = search rules
