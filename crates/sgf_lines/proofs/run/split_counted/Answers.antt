-- A run ends where reading ends. A source that has nothing to give at once is as it was.
use Rattle.sgf_lines.proofs.Common.{ℕ, ◌+◌, ◌≤◌, arith, err_from_is_err_and}
use Rattle.sgf_lines.proofs.Running.{failed_run, has_read_all}
use Rattle.sgf_lines.proofs.run.split_counted.Goals as goal

pub returns-in_err-read_all-clause-runs : goal.returns-in_err-read_all-clause-runs
returns-in_err-read_all-clause-runs g c =
    let none = rw c.in_default.is at c.give_rest.follows.holds-at-none in
    let p = err_from_is_err_and c.from_residual.result c.from_residual.ensures.1 in
    rw (p.1, p.2, ← none.0) (failed_run _ _ _ _ _ _ _ c.in_err-read_all.ensures.answer c.in_err-read_all.ensures.failures)

pub returns-in-Some-clause-runs : goal.returns-in-Some-clause-runs
returns-in-Some-clause-runs g c =
    let (short, all) = (rw c.in-Some.is at c.give_rest.follows.holds-at-none).0 in
    c.split_text.ensures _ _
    (record { read = record { gives = all.given; consumes = all.to_come; failures = all.failures }; whole = record { at_end = all.at_end; within = short } })

pub returns-clause-runs : goal.returns-clause-runs
returns-clause-runs g c =
    let none = rw c.in_default.is at c.give_rest.follows.holds-at-none in
    let read = c.in_ok-read_all.ensures in
    rw (← none.0) (c.split_text-2.ensures _ _ (has_read_all _ _ _ _ _ read.answer c.deref.ensures.value read.failures))

pub split_text-requires-2-clause-sink_countable : goal.split_text-requires-2-clause-sink_countable
split_text-requires-2-clause-sink_countable g c = c.requires.sink_countable

ended : (a b c : ℕ) → a ≤ b + 1 → b ≤ c + 0 → a ≤ c + 1
ended a b c one none = omega arith

pub returns-clause-one_end : goal.returns-clause-one_end
returns-clause-one_end g c = ended _ _ _ c.in_ok-read_all.ensures.one_end (rw c.in_default.is at c.give_rest.follows.holds-at-none).1
