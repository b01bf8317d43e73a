use Rattle.std.proofs.Common.{◌≡◌, cond, arith, eqb}
use Rattle.sgf_tree.proofs.Counting.{fewer-leaves, tally-closed}
use Rattle.sgf_outline.proofs.GameEnds.{cast-to, at_most_1, fewer-games}
use Rattle.sgf_tree.proofs.reader.counting.TallyVisitor.game_ends.Goals as goal

pub overflow_add-self : goal.overflow_add-self
overflow_add-self c =
    let (text, k, counts, is_unclosed, few) = c.requires.few in
    let is : c.from.result ≡ cond (eqb c.args.depth 0) 1 0 = cast-to (eqb c.args.depth 0) c.from.result (λ e. rw e at c.from.ensures) (λ e. rw e at c.from.ensures) in
    omega (arith, fewer-games k.closed k.unclosed c.args.depth is_unclosed, counts.games_counted, at_most_1 (eqb c.args.depth 0))

pub overflow_add-self-2 : goal.overflow_add-self-2
overflow_add-self-2 c =
    let (text, k, counts, is_unclosed, few) = c.requires.few in
    let is : c.from-2.result ≡ cond c.args.self.now.is_bare 1 0 = cast-to c.args.self.now.is_bare c.from-2.result (λ e. rw e at c.from-2.ensures) (λ e. rw e at c.from-2.ensures) in
    omega (arith, fewer-leaves k.closed k.unclosed c.args.depth is_unclosed, counts.leaves_counted, at_most_1 c.args.self.now.is_bare)

pub returns : goal.returns
returns c = record {
  kept = λ text k next counts is_unclosed closes.
      search (tally-closed c.args.self.now c.args.depth c.from.result c.from-2.result k next closes counts is_unclosed
      (cast-to (eqb c.args.depth 0) c.from.result (λ e. rw e at c.from.ensures) (λ e. rw e at c.from.ensures))
      (cast-to c.args.self.now.is_bare c.from-2.result (λ e. rw e at c.from-2.ensures) (λ e. rw e at c.from-2.ensures)));
}
