use Rattle.sgf_tree.proofs.Common.{◌-◌, length, AreKeptLengths, Stack, opened, nothing, AreOwnRead, ComesTo}
use Rattle.sgf_tree.proofs.reader.games.read_sequence.Given as goal

abbrev pub invariant-nodes : goal.invariant-nodes
invariant-nodes g l = record {
  so_far : (k : Stack) → ComesTo l.text l.at (opened k) → g.K.Visitor.keeps l.text l.fn.visitor k nothing → AreOwnRead (g.K.Visitor.keeps l.text l.visitor) l.text l.at k l.read;
  long : AreKeptLengths l.text l.long.items;
}

abbrev pub decreases-nodes : goal.decreases-nodes
decreases-nodes g l = length l.text - l.read.end
