-- The job was done with its own options.
use Rattle.std.proofs.Common.{Ok, Err, refl}
use Rattle.std.proofs.lemmas.Result.{err_from_is_err_and}
use Rattle.sgfsplit_job.proofs.acts.do_job.Goals as goal

pub returns-in_ok-split-in-Split-clause-does : goal.returns-in_ok-split-in-Split-clause-does
returns-in_ok-split-in-Split-clause-does g c =
    rw c.in-Split.is (Ok c.in_ok-split-in-Split.field-0, c.in_ok-split-in-Split.ensures.runs, refl)

pub returns-in_err-split-in-Split-clause-does : goal.returns-in_err-split-in-Split-clause-does
returns-in_err-split-in-Split-clause-does g c =
    let left = err_from_is_err_and c.from_residual.result c.from_residual.ensures.1 in
    rw (left.1, left.2, c.in-Split.is) (Err c.in_err-split-in-Split.field-0.0, c.in_err-split-in-Split.ensures.runs, refl)
