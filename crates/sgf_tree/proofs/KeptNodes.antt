-- What is kept of all nodes: with one more unclosed game, and after a game that ends.
use Rattle.sgf_tree.proofs.Common.{◌≡◌, ℕ, ◌+◌, ◌-◌, List, [], ◌∷◌, ◌++◌, length, set, Some, refl, sym, ap, ◌∙◌, arith, append-nil, common_steps, length-map, map-append, set_at, further_nodes, UnclosedGame, Stack, after_game, whole_game, close, HoldsSequences, Coming, nothing, own_of, places_of, coming_of, with_game, Node, Games, no_games, node_count, unclosed_count, Numbered, unclosed_nodes, ordered_places, HoldsNodes, add_games, game-ends}
use Rattle.sgf_outline.proofs.Listed.{before}
use Rattle.sgf_tree.proofs.Stacks.{unclosed_lasts-listed, length-unclosed_nodes, unclosed_nodes-closed, unclosed_lasts-closed}

further-places : (last : ℕ) (ns : List Node) → ordered_places (further_nodes last ns) ≡ places_of ns
further-places last [] = refl
further-places last (n ∷ ns) = ap (λ ps. n.place ∷ ps) (further-places (last + 1) ns)

-- the places of one more unclosed game
places-opened : (closed : Games) (gs : List UnclosedGame) (g : UnclosedGame) → g.below ≡ no_games
    → ordered_places (unclosed_nodes closed gs) ++ places_of (own_of g) ≡ ordered_places (unclosed_nodes closed (g ∷ gs)) ++ []
places-opened closed gs g none = grind (arith, common_steps, further-places, map-append, append-nil)

module _ (text : List ℕ) (kept : Numbered) where
  -- there are as many places as nodes
  pub length-places : (k : Stack) → HoldsNodes text kept k nothing → length kept.places.items ≡ unclosed_count k.closed k.unclosed
  length-places k holds = grind (arith, common_steps, append-nil, length-map, length-unclosed_nodes)

  -- and a last node for each sequence
  pub length-lasts : (k : Stack) (coming : Coming) → HoldsNodes text kept k coming → length kept.last_nodes.items ≡ length kept.sequences.table.items
  length-lasts k coming holds = ap length holds.lasts_are ∙ unclosed_lasts-listed k.closed k.unclosed ∙ sym holds.sequences.are.count

  -- one more game is unclosed
  pub nodes-opened : (after : Numbered) (k : Stack) (g : UnclosedGame) (told : List ℕ) → HoldsNodes text kept k (coming_of (own_of g) told) → g.below ≡ no_games
      → HoldsSequences text after.sequences (with_game k g) nothing → after.places ≡ kept.places → after.last_nodes.items ≡ kept.last_nodes.items ++ 0 ∷ []
      → HoldsNodes text after (with_game k g) nothing
  nodes-opened after k g told holds none sequences places lasts_are = grind (arith, common_steps, places-opened)

  -- a game that ends: the last node so far is the last one below its first
  module _ (after : Numbered)
      (closes : (i : ℕ) → kept.sequences.innermost ≡ Some i
      → (after.places ≡ kept.places) × (after.last_nodes.items ≡ set kept.last_nodes.items i (length kept.places.items - 1))) where
    abbrev Ends : Stack → Stack → Type 0
    Ends k next = HoldsNodes text kept k nothing → HoldsSequences text after.sequences next nothing → HoldsNodes text after next nothing

    each-ended : (closed : Games) (g : UnclosedGame) (gs : List UnclosedGame) → Ends (record { closed = closed; unclosed = g ∷ gs }) (add_games closed gs (whole_game g))
    each-ended closed g gs holds sequences =
        let i : ℕ = length (before closed gs) in
        let at : ℕ = unclosed_count closed gs in
        let last : length kept.places.items - 1 ≡ at + length g.more + node_count g.below =
        omega (arith, length-places (record { closed = closed; unclosed = g ∷ gs }) holds) in
        let (places, lasts_are) = closes i holds.sequences.innermost_is in
        grind (arith, common_steps, unclosed_nodes-closed, set_at, unclosed_lasts-listed, unclosed_lasts-closed)

    pub nodes-ended : (k next : Stack) → close k ≡ Some (after_game next) → Ends k next
    nodes-ended = game-ends Ends each-ended
