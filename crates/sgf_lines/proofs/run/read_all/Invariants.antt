-- The text is what the source has given, which hasn't failed.
use Rattle.sgf_lines.proofs.Common.{length, ◌-◌, ◌≡◌, ◌≤◌, MAX_LENGTH, HasRead}
use Rattle.sgf_lines.proofs.run.read_all.Given as goal

abbrev pub invariant-read : goal.invariant-read
invariant-read g l = record {
  bound : length l.text.items ≤ MAX_LENGTH;
  room : length l.chunk ≡ 65536;
  has_read : HasRead (g.S.Source.state l.initial.source) (g.S.Source.state l.source) l.text.items;
  end_answers : g.S.Source.end_answers l.source ≤ g.S.Source.end_answers l.initial.source;
}

abbrev pub decreases-read : goal.decreases-read
decreases-read g l = MAX_LENGTH - length l.text.items
