-- The sink failed within the row, or at the flush after it.
use Rattle.sgf_lines.proofs.Common.{◌≡◌, append_assoc, arith, common_steps, Ok, Err, [], ◌+◌, ◌∙◌, ap, append-nil, drop, refl, rules, sym, take, take-append-drop, Appends-kept, PutsAll, counts_row}
use Rattle.sgf_lines.proofs.counting.write_counts.Given.{Over}
use Rattle.sgf_lines.proofs.counting.write_counts.Goals as goal
use Rattle.sgf_lines.proofs.counting.write_counts.Goals.{After-text}

-- the row is put from its last number to its first
row_is : (g : Over) (c : After-text g) → c.text.result.now ≡ counts_row c.args.counts.now
row_is g c = grind (arith, common_steps, append_assoc)

pub returns-in_default : goal.returns-in_default
returns-in_default g c =
    let row = counts_row c.args.counts.now in
    let cut : PutsAll {A = Unit {0}} (g.T.Sink.state c.args.sink.now) (g.T.Sink.state c.put_all.new.sink) row (Err c.in_default.field-0) = rw (row_is g (goal.at.returns-in_default g c).After-text) at c.in_default.ensures in
    record { answers = (refl, (take cut.0 row, drop cut.0 row, sym (take-append-drop cut.0 row), cut.2)); sink_failures = cut.3 }

pub returns-in-Err : goal.returns-in-Err
returns-in-Err g c =
    let row = counts_row c.args.counts.now in
    let whole : PutsAll {E = Unit {0}} (g.T.Sink.state c.args.sink.now) (g.T.Sink.state c.put_all.new.sink) row (Ok c.in-Ok.field-0) = rw (row_is g (goal.at.returns-in-Err g c).After-text) at c.in-Ok.ensures in
    let kept = Appends-kept _ _ _ row whole.0 c.in-Err.ensures.taken in
    record { answers = (refl, (row, [], sym (append-nil row), kept)); sink_failures = c.in-Err.ensures.failures ∙ ap (λ n. n + 1) whole.1 }

pub returns-in-Ok-flush : goal.returns-in-Ok-flush
returns-in-Ok-flush g c =
    let is = row_is g (goal.at.returns-in-Ok-flush g c).After-text in
    rw (← is) (search rules)
