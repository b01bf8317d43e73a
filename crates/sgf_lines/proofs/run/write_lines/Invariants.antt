-- So many records were written, the cursor stands after their lines, and the last of these is held.
use Rattle.sgf_lines.proofs.Common.{take, ◌≡◌, ◌-◌, ◌<◌, nodes_before, Unheld, Held, StandsBy, plays_of, page_from}
use Rattle.sgf_lines.proofs.PlayCounts.{IsSoFar}
use Rattle.sgf_lines.proofs.run.write_lines.Given as goal

abbrev pub invariant-page : goal.invariant-page
invariant-page g l = record {
  written : IsSoFar g.F.LineForm.form l.fn.lines.cursor.at.games l.fn.lines.cursor.at.index l.limit (g.T.Sink.state l.fn.sink) l.written l.lines.cursor.at (g.T.Sink.state l.sink);
  first : l.written ≡ 0 → l.lines.before ≡ Unheld;
  later : 0 < l.written → l.lines.before ≡ Held;
  stands : StandsBy l.lines.before (nodes_before l.lines.cursor.at) (g.F.LineKeeper.holds l.lines.keeper l.lines.cursor);
  plays : g.F.LineKeeper.played l.lines.keeper ≡ plays_of g.F.LineForm.form (take l.written (page_from l.fn.lines.cursor.at.games l.fn.lines.cursor.at.index l.limit));
}

abbrev pub decreases-page : goal.decreases-page
decreases-page g l = l.limit - l.written
