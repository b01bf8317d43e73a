-- The source began with the whole text to come.
use Rattle.std.proofs.Common.{ap, rules}
use Rattle.byte_streams.specs.Streams.{SourceState}
use Rattle.sgf_lines_c.proofs.InMemory.{count_refused}
use Rattle.sgf_lines_c.proofs.count.sgf_lines_count.Goals as goal
use Rattle.sgf_lines_c.proofs.count.sgf_lines_count.Goals.{in-Ok, in-Err}

pub returns : goal.returns
returns c = record {
  status = c.match-count.status.0;
  number_is = c.number.ensures;
  says = elim c.match-count.branch [
    | in-Ok w ↦ rw w.status-is (search rules)
    | in-Err w ↦
        rw (w.status-is, w.refused-status.ensures)
        (count_refused c.args.text.now _ _ w.in-Err.fault (ap (λ (s : SourceState). s.to_come) c.new-source.ensures) w.in-Err.ensures.counts)
  ];
}
