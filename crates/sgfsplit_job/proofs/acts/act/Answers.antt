use Rattle.std.proofs.Common.{◌≡◌, ◌∙◌, Some, sym, arith, rules}
use Rattle.std.proofs.lemmas.Grind.{common_steps}
use Rattle.sgf_lines.specs.declared.fault.RunFault.{RunFault}
use Rattle.sgfsplit_job.specs.Fault.{status_of}
use Rattle.sgfsplit_job.specs.declared.fault.Fault.TheVariants.{Run}
use Rattle.sgfsplit_job.proofs.acts.act.Goals as goal
use Rattle.sgfsplit_job.proofs.acts.act.Goals.{in-Memory, in_default}

-- no fault has status 0
not_zero : (fault : RunFault) → status_of (Run fault) ≡ 0 → ⊥
not_zero fault e = grind (arith, common_steps)

pub returns-after-fault : goal.returns-after-fault
returns-after-fault g c = record {
  fault = Some c.in-Err.fault;
  written = g.T.Sink.state c.do_job.new.output;
  does = c.in-Err.ensures.does;
  reads = c.in-Err.ensures.reads;
  writes = c.in-Err.ensures.writes;
  flushes = elim c.match-fault.branch [ in-Memory w ↦ search rules | in_default w ↦ search rules ];
  tells = c.tell.ensures;
  delivers = λ zero. absurd (not_zero c.in-Err.fault (sym c.tell.ensures.status_is ∙ zero));
}
