use Rattle.sgf_tree.proofs.Common.{◌-◌, ◌≤◌, length, AreKeptLengths, Copies}
use Rattle.sgf_tree.proofs.ShortProperties.{ReadSoFar}
use Rattle.sgf_tree.proofs.reader.properties.read_properties.Given as goal

abbrev pub invariant-properties : goal.invariant-properties
invariant-properties g l = record {
  rises : l.read.segment.start ≤ l.read.segment.end;
  so_far : ReadSoFar (Copies (g.K.Visitor.keeps l.text l.fn.visitor) (g.K.Visitor.keeps l.text l.visitor) l.text l.fn.segment l.read.segment) l.text l.fn.segment.end l.read.segment.end l.read.end;
  kept : AreKeptLengths l.text l.long.items;
}

abbrev pub decreases-properties : goal.decreases-properties
decreases-properties g l = length l.text - l.read.end
