use Rattle.sgf_tree.proofs.Common.{◌-◌, ◌≤◌, length, AreKeptLengths, IsBracket, Copies}
use Rattle.sgf_tree.proofs.ValuesRead.{ValuesSoFar}
use Rattle.sgf_tree.proofs.reader.properties.read_property.Given as goal

abbrev pub invariant-values : goal.invariant-values
invariant-values g l = record {
  rises : l.read.segment.start ≤ l.read.segment.end;
  after : l.read.segment.end ≤ l.read.end;
  stands : IsBracket l.text l.read.end;
  so_far : ValuesSoFar l.text (Copies (g.K.Visitor.keeps l.text l.initial.visitor) (g.K.Visitor.keeps l.text l.visitor) l.text l.initial.read.segment l.read.segment) l.initial.read.end l.read.end;
  kept : AreKeptLengths l.text l.long.items;
}

abbrev pub decreases-values : goal.decreases-values
decreases-values g l = length l.text - l.read.end
