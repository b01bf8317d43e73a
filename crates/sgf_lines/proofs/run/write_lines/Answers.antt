-- One record more was written, or the sink failed within it.
use Rattle.sgf_lines.proofs.Common.{◌≡◌, true, None, Some, Ok, Err, slice_get, sym, ap, ◌∙◌, arith, common_steps, MemoryFault, CursorState, advanced, line_before, nodes_before, lines, PutsAll, Held, PlaysLine, StandsBy, record_of, WritesLines, page_after, next_by, line_next}
use Rattle.byte_streams.specs.declared.sink.SinkFault.{SinkFault}
use Rattle.sgf_lines.proofs.PlayCounts.{one_written, cut_short, none_left, limit_met, few, goes_forth, not_flushed, one_played, played_then_cut, played_in_part}
use Rattle.sgf_lines.proofs.run.write_lines.Given.{Over}
use Rattle.sgf_lines.proofs.run.write_lines.Goals as goal
use Rattle.sgf_lines.proofs.run.write_lines.Goals.{After-flush, In-Ok-true, else-page-test, then-page-test+in-Ok-false}

pub next-requires-clause-countable : goal.next-requires-clause-countable
next-requires-clause-countable g c = grind (arith, common_steps, few)

-- the next line was kept
module _ (g : Over) (c : In-Ok-true g) where
  plays : PlaysLine {E = MemoryFault} g.F.LineKeeper.counts c.page.lines.before c.page.lines.cursor.at (g.F.LineKeeper.played c.page.lines.keeper) (g.F.LineKeeper.played c.next.new.self.keeper) (Ok true)
  plays = rw c.in-Ok-true.field-0-test at c.in-Ok-true.ensures.plays

  came : (c.next.new.self.before ≡ Held) × (c.next.new.self.cursor.at ≡ advanced (next_by c.page.lines.before c.page.lines.cursor.at))
  came = rw c.in-Ok-true.field-0-test at c.in-Ok-true.ensures.moved

  moved : c.next.new.self.cursor.at ≡ advanced c.page.lines.cursor.at
  moved = came.1 ∙ ap advanced (goes_forth c.page.written c.page.lines.before c.page.lines.cursor.at c.page.invariant.first c.page.invariant.later)

  found : slice_get (lines c.page.lines.cursor.at.games) c.page.lines.cursor.at.index ≡ Some plays.1.line
  found = grind (arith, common_steps, goes_forth, plays)

  before : line_before c.next.new.self.cursor.at ≡ Some plays.1.line
  before = ap line_before moved ∙ line_next c.page.lines.cursor.at ∙ found

  stands : StandsBy Held (nodes_before c.next.new.self.cursor.at) (g.F.LineKeeper.holds c.next.new.self.keeper c.next.new.self.cursor)
  stands = rw came.0 at c.in-Ok-true.ensures.stands

pub page-preserved : goal.page-preserved
page-preserved g c =
    let at = (goal.at.page-preserved g c).In-Ok-true in
    let put : PutsAll {E = SinkFault} (g.T.Sink.state c.page.sink) (g.T.Sink.state c.put.new.sink) (record_of g.F.LineForm.form (plays g at).1.line) (Ok c.in-Ok.field-0) =
    rw c.in-Ok.is at (c.put.ensures (plays g at).1.line (before g at)) in
    record {
      written = one_written _ _ _ _ _ _ _ _ c.page.invariant.written _ (g.T.Sink.state c.put.new.sink) (plays g at).1.line (omega (arith, c.page-test.true)) (found g at) (moved g at) put.0 put.1;
      first = λ none. absurd (omega (arith, none));
      later = λ some. (came g at).0;
      stands = c.in-Ok-true.ensures.stands;
      plays = one_played _ g.F.LineKeeper.counts g.met.F.LineForm.counts_are _ c.requires.ready.rise _ _ _ _ _ _ _ c.page.invariant.written c.page.invariant.first c.page.invariant.later
          (omega (arith, c.page-test.true)) _ c.page.invariant.plays _ (plays g at);
    }

pub returns-in-Err-put-clause-answer : goal.returns-in-Err-put-clause-answer
returns-in-Err-put-clause-answer g c =
    let at = (goal.at.returns-in-Err-put-clause-answer g c).In-Ok-true in
    let put : PutsAll {A = Unit {0}} (g.T.Sink.state c.page.sink) (g.T.Sink.state c.put.new.sink) (record_of g.F.LineForm.form (plays g at).1.line) (Err c.in-Err-put.field-0) =
    rw c.in-Err-put.is at (c.put.ensures (plays g at).1.line (before g at)) in (
      cut_short _ _ _ _ _ _ _ _ c.page.invariant.written (g.T.Sink.state c.put.new.sink) (plays g at).1.line put.0 (omega (arith, c.page-test.true)) (found g at) put.1 put.2,
      played_then_cut _ g.F.LineKeeper.counts g.met.F.LineForm.counts_are _ c.requires.ready.rise _ _ _ _ _ _ _ c.page.invariant.written c.page.invariant.first c.page.invariant.later
          (omega (arith, c.page-test.true)) _ c.page.invariant.plays _ (plays g at),
    )

pub returns-in-Err-clause-answer : goal.returns-in-Err-clause-answer
returns-in-Err-clause-answer g c = (
  c.page.invariant.written.within,
  c.page.invariant.written.takes,
  played_in_part _ g.F.LineKeeper.counts g.met.F.LineForm.counts_are _ c.requires.ready.rise _ _ _ _ _ _ _ c.page.invariant.written c.page.invariant.first c.page.invariant.later
      (omega (arith, c.page-test.true)) _ c.page.invariant.plays c.in-Err.field-0 (g.F.LineKeeper.played c.next.new.self.keeper) c.in-Err.ensures.plays,
)

-- all records of the page were put, and then the sink was flushed
whole : (g : Over) (c : After-flush g) → WritesLines g.F.LineForm.form (page_after c.args.lines.now.cursor.at c.args.limit) (g.T.Sink.state c.args.sink.now) (g.T.Sink.state c.page.sink)
    (g.F.LineKeeper.played c.page-test.lines.keeper) (Ok c.page.written)
whole g c =
    let old = c.page.lines in
    elim c.page-test.branch [
      | else-page-test w ↦ rw w.lines-is (limit_met _ _ _ _ _ _ _ _ c.page.invariant.written _ c.page.invariant.plays (omega (arith, w.page-test.false)))
      | then-page-test+in-Ok-false w ↦
          let same : g.F.LineKeeper.played w.next.new.self.keeper ≡ g.F.LineKeeper.played old.keeper = rw w.in-Ok-false.field-0-test at w.in-Ok-false.ensures.plays in
          let none : (w.next.new.self ≡ old) × (slice_get (lines old.cursor.at.games) (next_by old.before old.cursor.at).index ≡ None) = rw w.in-Ok-false.field-0-test at w.in-Ok-false.ensures.moved in
          let index = ap (λ (p : CursorState). slice_get (lines old.cursor.at.games) p.index) (sym (goes_forth c.page.written old.before old.cursor.at c.page.invariant.first c.page.invariant.later)) in
          rw w.lines-is (none_left _ _ _ _ _ _ _ _ c.page.invariant.written _ (same ∙ c.page.invariant.plays) (index ∙ none.1))
    ]

pub returns-in-Err-flush-clause-answer : goal.returns-in-Err-flush-clause-answer
returns-in-Err-flush-clause-answer g c = not_flushed _ _ _ _ _ _ _ (whole g (goal.at.returns-in-Err-flush-clause-answer g c).After-flush) c.in-Err-flush.ensures

pub returns-in-Ok-flush-clause-answer : goal.returns-in-Ok-flush-clause-answer
returns-in-Ok-flush-clause-answer g c = grind (arith, common_steps, whole g (goal.at.returns-in-Ok-flush-clause-answer g c).After-flush)

pub returns-in-Ok-flush-clause-failures : goal.returns-in-Ok-flush-clause-failures
returns-in-Ok-flush-clause-failures g c = omega (arith, c.in-Ok-flush.ensures.failures, c.page.invariant.written.failures)

pub returns-in-Ok-flush-clause-delivered : goal.returns-in-Ok-flush-clause-delivered
returns-in-Ok-flush-clause-delivered g c = c.in-Ok-flush.ensures.delivered

pub returns-in-Err-flush-clause-failures : goal.returns-in-Err-flush-clause-failures
returns-in-Err-flush-clause-failures g c = omega (arith, c.in-Err-flush.ensures.failures, c.page.invariant.written.failures)
