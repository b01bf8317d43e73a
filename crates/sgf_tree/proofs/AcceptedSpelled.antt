-- What the machine accepts, the text spells.
use Rattle.sgf_tree.proofs.Common.{◌≡◌, ℕ, ◌+◌, List, [], ◌∷◌, ◌++◌, length, Some, sym, subst, append-nil, arith, rules, none-some, same_Some, option_and_then_some, UnclosedGame, MachineState, start, whole_games, next_state, run, accepted, collection_of, no_white_space, no_game, Spells, spells, Games, no_games, game}
use Rattle.sgf_tree.proofs.Transitions.{transition}
use Rattle.sgf_tree.proofs.Completion.{followed-none, Rest, ends, Completes}
use Rattle.sgf_tree.proofs.Prepending.{prepend}

module _ (whole : ℕ) (c : Games) where
  -- a text that is taken to a state, before one that completes that state
  prepend-run : (at : ℕ) (z y : MachineState) (t r : List ℕ) → at + length (t ++ r) ≡ whole → run at z t ≡ Some y
      → Completes whole c y r → Completes whole c z (t ++ r)
  unfolding run
  prepend-run at z y [] r e h k = subst (λ x. Completes whole c x r) (sym (same_Some z y h)) k
  prepend-run at z y (b ∷ t) r e h k =
      option_and_then_some (λ next. run (at + 1) next t) (next_state at z b) y h (λ x s g.
      prepend whole c at z b x (t ++ r) (transition at z b x s) e (prepend-run (at + 1) x y t r (omega arith) g k))

  -- no byte completes a state where a text may end
  whole-rest : (closed : Games) (unclosed : List UnclosedGame) → whole_games closed unclosed ≡ Some c → Rest whole c closed unclosed []
  whole-rest no_games unclosed e = absurd (none-some c e)
  whole-rest (game f m b h) [] e = ends no_game no_white_space (rw (followed-none h) e)
  whole-rest (game f m b h) (g ∷ gs) e = absurd (none-some c e)

  accepted-completes : (z : MachineState) → accepted z ≡ Some c → Completes whole c z []
  unfolding accepted
  accepted-completes z h = search (rules, whole-rest, none-some)

-- a text that completes the start spells the collection
completes-spells : (c : Games) (t : List ℕ) → Completes (length t) c start t → Spells c t
completes-spells c t (s, m, ends no_game w e) = absurd (none-some c e)
completes-spells c t (s, m, ends {others = game f n b h} are w e) =
    subst (λ x. Spells x t) (same_Some (game f n b h) c e) (spells m are w)

pub accepted-spelled : (c : Games) (t : List ℕ) → collection_of t ≡ Some c → Spells c t
unfolding collection_of
accepted-spelled c t e =
    option_and_then_some accepted (run 0 start t) c e (λ z h a.
    subst (Spells c) (append-nil t) (completes-spells c (t ++ []) (prepend-run (length (t ++ [])) c 0 start z t [] (omega arith) h (accepted-completes (length (t ++ [])) c z a))))
