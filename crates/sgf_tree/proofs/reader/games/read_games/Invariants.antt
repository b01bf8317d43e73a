use Rattle.sgf_tree.proofs.Common.{◌-◌, length, AreKeptLengths}
use Rattle.sgf_tree.proofs.WholeRead.{GamesSoFar}
use Rattle.sgf_tree.proofs.reader.games.read_games.Given as goal

abbrev pub invariant-games : goal.invariant-games
invariant-games g l = record {
  so_far : GamesSoFar l.text (g.K.Visitor.keeps l.text l.visitor) l.fn.at l.at l.depth;
  long : AreKeptLengths l.text l.long.items;
}

abbrev pub decreases-games : goal.decreases-games
decreases-games g l = length l.text - l.at
