use Rattle.sgf_tree.proofs.Common.{◌-◌, ◌≤◌, slice_range, name_in, Copies}
use Rattle.sgf_tree.proofs.reader.properties.copy_capitals.Given as goal

abbrev pub invariant-letters : goal.invariant-letters
invariant-letters g l = record {
  low : l.from ≤ l.at;
  high : l.at ≤ l.to;
  rises : l.segment.start ≤ l.segment.end;
  after : l.segment.end ≤ l.at;
  copied : Copies (g.K.Visitor.keeps l.text l.fn.visitor) (g.K.Visitor.keeps l.text l.visitor) l.text l.fn.segment l.segment (name_in (slice_range l.text l.from l.at));
}

abbrev pub decreases-letters : goal.decreases-letters
decreases-letters g l = l.to - l.at
