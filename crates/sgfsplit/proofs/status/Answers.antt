-- The job that is done is the one that the words ask for.
use Rattle.std.proofs.Common.{inl, rules}
use Rattle.sgfsplit.proofs.status.Goals as goal

pub returns-in-Ok-clause-split : goal.returns-in-Ok-clause-split
returns-in-Ok-clause-split c = λ name given plain words. inl (c.in-Ok.job, c.in-Ok.ensures.split name given plain words, c.opened.ensures)

pub returns-in-Ok-clause-count : goal.returns-in-Ok-clause-count
returns-in-Ok-clause-count c = λ name file named words. inl (c.in-Ok.job, c.in-Ok.ensures.count name file named words, c.opened.ensures)

-- the prover needs no help with the others: with an answer it refuses a wrong body sooner
pub returns-in-Ok-clause-any : goal.returns-in-Ok-clause-any
returns-in-Ok-clause-any c = inl (c.in-Ok.job, c.in-Ok.ensures.faultless, c.opened.ensures)

pub returns-in-Err-Words-clause-any : goal.returns-in-Err-Words-clause-any
returns-in-Err-Words-clause-any c = search rules
