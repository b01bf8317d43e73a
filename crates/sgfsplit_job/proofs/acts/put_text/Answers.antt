-- The sink took the first bytes of the text, and then failed.
use Rattle.std.proofs.Common.{drop, sym, take, arith, take-append-drop}
use Rattle.std.proofs.lemmas.Grind.{common_steps}
use Rattle.std.proofs.lemmas.Result.{err_from_is_err_and}
use Rattle.sgfsplit_job.proofs.acts.put_text.Goals as goal

pub returns-in_err-put_all : goal.returns-in_err-put_all
returns-in_err-put_all g c =
    let text = c.args.text.now in
    let cut = c.in_err-put_all.ensures in
    let left = err_from_is_err_and c.from_residual.result c.from_residual.ensures.1 in
    rw left.1 (take cut.0 text, drop cut.0 text, sym (take-append-drop cut.0 text), cut.2, cut.3)

-- written out though the prover needs no help: it then refuses a wrong body sooner
pub returns : goal.returns
returns g c = grind (arith, common_steps)
