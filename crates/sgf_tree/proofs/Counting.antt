-- What a tally of games counts.
use Rattle.sgf_tree.proofs.Common.{◌≡◌, ℕ, ◌+◌, ◌≤◌, false, cond, List, [], ◌∷◌, length, Some, refl, arith, rules, eqb, common_steps, joined, UnclosedGame, Stack, after_game, whole_game, close, Games, no_games, game, node_count, leaf_count, unclosed_count, add_games, game-ends, unclosed_count-closed, game_count-closed}
use Rattle.sgf_tree.specs.inner.Counting.{unclosed_leaves, are_none, is_bare, IsTallyOf}
use Rattle.sgf_tree.specs.declared.reader.counting.Tally.{Tally}

leaf_count-followed : (a b : Games) → leaf_count (joined a b) ≡ leaf_count a + leaf_count b
leaf_count-followed no_games b = omega arith
leaf_count-followed (game first more no_games after) b = omega (arith, leaf_count-followed after b)
leaf_count-followed (game first more (game first' more' below' after') after) b = omega (arith, leaf_count-followed after b)

leaf_count-least : (a : Games) → leaf_count a ≤ node_count a
leaf_count-least no_games = omega arith
leaf_count-least (game first more no_games after) = omega (arith, leaf_count-least after)
leaf_count-least (game first more (game first' more' below' after') after) = search (rules, (leaf_count-least (game first' more' below' after')), (leaf_count-least after))

unclosed_leaves-least : (closed : Games) (gs : List UnclosedGame) → unclosed_leaves closed gs ≤ unclosed_count closed gs
unclosed_leaves-least closed [] = leaf_count-least closed
unclosed_leaves-least closed (g ∷ gs) = omega (arith, unclosed_leaves-least closed gs, leaf_count-least g.below)

-- where a game is unclosed, there are fewer leaves than nodes
pub fewer-leaves : (closed : Games) (gs : List UnclosedGame) (depth : ℕ) → length gs ≡ depth + 1 → unclosed_leaves closed gs + 1 ≤ unclosed_count closed gs
fewer-leaves closed [] depth is_unclosed = absurd (omega arith)
fewer-leaves closed (g ∷ gs) depth is_unclosed = omega (arith, unclosed_leaves-least closed gs, leaf_count-least g.below)

-- a game without games below it is one leaf more
leaves-whole : (g : UnclosedGame) → leaf_count (whole_game g) ≡ leaf_count g.below + cond (are_none g.below) 1 0
leaves-whole g = grind (arith, common_steps)

joined-some : (a : Games) (g : UnclosedGame) → are_none (joined a (whole_game g)) ≡ false
joined-some no_games g = refl
joined-some (game first more below after) g = refl

-- a game that ends
module _ (closed : Games) (g : UnclosedGame) where
  abbrev after : List UnclosedGame → Stack
  after gs = add_games closed gs (whole_game g)

  unclosed_leaves-closed : (gs : List UnclosedGame) → unclosed_leaves (after gs).closed (after gs).unclosed ≡ unclosed_leaves closed (g ∷ gs) + cond (are_none g.below) 1 0
  unclosed_leaves-closed gs = search (rules, leaf_count-followed, leaves-whole)

  bare-closed : (gs : List UnclosedGame) → is_bare (after gs).unclosed ≡ false
  bare-closed gs = search (rules, joined-some)

-- the tally of a game that ends
module _ (tally : Tally) (depth one_game one_leaf : ℕ) where
  abbrev Counts : Stack → Stack → Type 0
  Counts k next =
      IsTallyOf k tally → length k.unclosed ≡ depth + 1 → one_game ≡ cond (eqb depth 0) 1 0 → one_leaf ≡ cond tally.is_bare 1 0
      → IsTallyOf next (record { extent = record { games = tally.extent.games + one_game; nodes = tally.extent.nodes; leaves = tally.extent.leaves + one_leaf }; is_bare = false })

  pub tally-closed : (k next : Stack) → close k ≡ Some (after_game next) → Counts k next
  tally-closed = game-ends Counts (λ closed g gs counts is_unclosed is_game is_leaf. grind (arith, common_steps, game_count-closed, unclosed_count-closed, unclosed_leaves-closed, bare-closed))
