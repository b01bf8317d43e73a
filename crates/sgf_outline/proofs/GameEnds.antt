-- A game that ends: how many games and nodes there are then.
use Rattle.sgf_outline.proofs.Common.{◌≡◌, ℕ, ◌+◌, ◌≤◌, Bool, true, false, cond, List, [], ◌∷◌, length, Some, arith, ne_eqb, rules, eqb, common_steps, UnclosedGame, Stack, after_game, whole_game, close, close_in, Games, no_games, game, joined, game_count, node_count, unclosed_count}

-- games at the end of the innermost unclosed game, or of all
abbrev pub add_games : Games → List UnclosedGame → Games → Stack
add_games closed [] others = record { closed = joined closed others; unclosed = [] }
add_games closed (g ∷ gs) others =
    record { closed = closed; unclosed = record { first = g.first; more = g.more; below = joined g.below others } ∷ gs }

pub closed-in : (closed : Games) (g : UnclosedGame) (gs : List UnclosedGame)
    → close_in closed (g ∷ gs) ≡ Some (after_game (add_games closed gs (whole_game g)))
closed-in closed g gs = search rules

pub node_count-followed : (a b : Games) → node_count (joined a b) ≡ node_count a + node_count b
node_count-followed no_games b = omega arith
node_count-followed (game first more below after) b = omega (arith, node_count-followed after b)

pub game_count-followed : (a b : Games) → game_count (joined a b) ≡ game_count a + game_count b
game_count-followed no_games b = omega arith
game_count-followed (game first more below after) b = omega (arith, game_count-followed after b)

-- the number that a test was cast to
pub cast-to : (b : Bool) (n : ℕ) → (b ≡ true → ◌≡◌ {A = ℕ} n 1) → (b ≡ false → ◌≡◌ {A = ℕ} n 0) → n ≡ cond b 1 0
cast-to b n h k = search rules

pub at_most_1 : (b : Bool) → cond b 1 0 ≤ 1
at_most_1 b = search rules

-- what holds of each game that ends holds of the stack before and the stack after a `)`
pub game-ends : (P : Stack → Stack → Type 0)
    → ((closed : Games) (g : UnclosedGame) (gs : List UnclosedGame) → P (record { closed = closed; unclosed = g ∷ gs }) (add_games closed gs (whole_game g)))
    → (k next : Stack) → close k ≡ Some (after_game next) → P k next
game-ends P each k next = grind (arith, common_steps, add_games, closed-in)

game_count-least : (a : Games) → game_count a ≤ node_count a
game_count-least no_games = omega arith
game_count-least (game first more below after) = omega (arith, game_count-least after)

-- there are no more games than nodes
pub unclosed_games-least : (closed : Games) (gs : List UnclosedGame) → game_count closed ≤ unclosed_count closed gs
unclosed_games-least closed [] = game_count-least closed
unclosed_games-least closed (g ∷ gs) = omega (arith, unclosed_games-least closed gs)

pub fewer-games : (closed : Games) (gs : List UnclosedGame) (depth : ℕ) → length gs ≡ depth + 1 → game_count closed + 1 ≤ unclosed_count closed gs
fewer-games closed [] depth is_unclosed = absurd (omega arith)
fewer-games closed (g ∷ gs) depth is_unclosed = omega (arith, unclosed_games-least closed gs)

module _ (closed : Games) (g : UnclosedGame) where
  pub unclosed_count-closed : (gs : List UnclosedGame) → unclosed_count (add_games closed gs (whole_game g)).closed (add_games closed gs (whole_game g)).unclosed ≡ unclosed_count closed (g ∷ gs)
  unclosed_count-closed gs = search (rules, node_count-followed)

  -- one game more, if no other is unclosed
  pub game_count-closed : (gs : List UnclosedGame) (depth : ℕ) → length (g ∷ gs) ≡ depth + 1
      → game_count (add_games closed gs (whole_game g)).closed ≡ game_count closed + cond (eqb depth 0) 1 0
  game_count-closed gs depth h = search (rules, game_count-followed, ne_eqb)
