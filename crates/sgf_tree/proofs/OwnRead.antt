-- How the own nodes of a game are read one by one, and what a visitor keeps of them.
use Rattle.sgf_tree.proofs.Common.{◌≡◌, ◌≢◌, ℕ, ◌+◌, ◌-◌, ◌<◌, ◌≤◌, true, List, [], ◌∷◌, ◌++◌, length, get_or, slice_range, refl, sym, ap, subst, ◌∙◌, arith, length-append, append_assoc, append-nil, rules, flat_map, flat_map-append, map-append, IsSpan, OwnNodes, UnclosedGame, Stack, Started, opened, in_node, IsMoveNode, EndsNode, Coming, nothing, coming_of, places_of, own_of, with_game, IsCopied, Copies, CopiesNode, AreOwnNodes, is_white_space, Property, Node, no_games, unclosed_count, property_text, node_text, NodesRead, IsFaultyAt, IsGameRead, NodesSoFar, AreReadTo, AreOwnRead, AreNodesRead, ComesTo, StandsIn, ArePropertiesRead, common_steps, span-one, span-none, span-join}
use Rattle.std.proofs.Math.Seq.{get_or-append_seam}
use Rattle.sgf_outline.specs.declared.layout.Segment.{Segment}
use Rattle.sgf_tree.proofs.ShortProperties.{lone-read}
use Rattle.sgf_tree.proofs.SequencesRead.{nodes-first, nodes-next, nodes-node, nodes-done, place-node, place-faulty}

-- a node that a move begins ends the node before it
pub move-ends : (t : List ℕ) (at : ℕ) → IsMoveNode t at → EndsNode t at
move-ends t at node = record { within = omega (arith, node.move.value.within); above = omega (arith, node.begins); below = omega (arith, node.begins) }

-- the properties of a node that is a move, as in `;B[pd]`
pub move-read : (t : List ℕ) (place end : ℕ) → IsMoveNode t place → EndsNode t end → place + 6 ≡ end → ArePropertiesRead (StandsIn t (place + 1) end) t (place + 1) end end
move-read t place end node ends to =
    let six : place + 1 + 5 ≡ end = omega arith in
    subst (λ i. ArePropertiesRead (StandsIn t (place + 1) i) t (place + 1) i i) six (lone-read t (place + 1) node.move (subst (EndsNode t) (sym six) ends))

-- where the first node is, and where the last one is, if one more comes
first-of : (nodes : List Node) (node default : Node) (first : ℕ) → (length nodes ≡ 0 → node.place ≡ first) → (0 < length nodes → (get_or nodes 0 default).place ≡ first)
    → (get_or (nodes ++ node ∷ []) 0 default).place ≡ first
first-of [] node default first alone before = alone refl
first-of (x ∷ nodes) node default first alone before = before (omega arith)

last-of : (nodes : List Node) (node default : Node) → get_or (nodes ++ node ∷ []) (length (nodes ++ node ∷ []) - 1) default ≡ node
last-of nodes node default = grind (arith, common_steps, length-append, get_or-append_seam)

-- How a node is copied: `part` is what the sgf form writes for its properties.
module _ (t : List ℕ) (place : ℕ) (lt : place < length t) (semicolon : get_or t place 0 ≡ 59) (kept keeps : Stack → Coming → Type 0) (before after : Segment) where
  -- in one piece
  pub piece-copied : (end : ℕ) → place + 1 ≤ end → CopiesNode kept keeps t place before after (slice_range t place end) → (part : List ℕ) → StandsIn t (place + 1) end part
      → CopiesNode kept keeps t place before after (59 ∷ part)
  piece-copied end le copied part stands =
      let whole : slice_range t place end ≡ 59 ∷ part = grind (arith, common_steps, span-join t place (place + 1) end, span-one t place lt) in
      subst (CopiesNode kept keeps t place before after) whole copied

  -- part by part
  pub parts-copied : (told : Stack → Coming → Type 0) (between : Segment) → CopiesNode kept told t place before between (slice_range t place (place + 1)) → (part : List ℕ)
      → Copies told keeps t between after part → CopiesNode kept keeps t place before after (59 ∷ part)
  parts-copied told between begun part copied k places first written is =
      let one : slice_range t place (place + 1) ≡ 59 ∷ [] = span-one t place lt ∙ ap (λ b. b ∷ []) semicolon in
      subst (IsCopied (λ told. keeps k (record { places = places ++ place ∷ []; told = told })) t first after)
      (ap (λ s. (written ++ s) ++ part) one ∙ append_assoc written (59 ∷ []) part)
      (copied k (places ++ place ∷ []) first (written ++ slice_range t place (place + 1)) (begun k places first written is))

module _ (t : List ℕ) where
  module _ (at : ℕ) (k : Stack) (after : ComesTo t at (opened k)) where
    read-more : (Wrote : List ℕ → Type 0) (place text_end end : ℕ) (nodes : List Node) → AreReadTo t at k place nodes → place < length t → get_or t place 0 ≡ 59
        → ArePropertiesRead Wrote t (place + 1) text_end end
        → (ps : List Property) × AreReadTo t at k end (nodes ++ record { place = place; properties = ps } ∷ []) × Wrote (flat_map property_text ps)
    read-more Wrote place text_end end [] white lt e read = nodes-first t Wrote at place text_end end k white after lt e read
    read-more Wrote place text_end end (first ∷ more) so_far lt e read =
        nodes-next t Wrote place text_end end k (record { first = first; more = more; below = no_games }) so_far lt e read

    -- a `;` begins a node
    pub read-node : (place : ℕ) (nodes : List Node) → AreReadTo t at k place nodes → place < length t → get_or t place 0 ≡ 59
        → (n : Started) × ((n.properties ≡ []) × ComesTo t (place + 1) (in_node n))
    read-node place [] white lt e = (
      record { stack = k; opens = true; place = place; properties = [] },
      (refl, place-node t at place k white after lt e),
    )
    read-node place (first ∷ more) so_far lt e = nodes-node t place k (record { first = first; more = more; below = no_games }) so_far lt e

    -- no node begins
    pub read-faulty : (end : ℕ) (nodes : List Node) → AreReadTo t at k end nodes → length nodes ≡ 0 → (end < length t → get_or t end 0 ≢ 59) → IsFaultyAt t end
    read-faulty end [] white none other = place-faulty t at end k white after other
    read-faulty end (first ∷ more) so_far none other = absurd (omega arith)

  -- no node was read yet
  pub own-start : (keeps : Stack → Coming → Type 0) (at first : ℕ) (k : Stack) → IsSpan is_white_space t at first → ComesTo t at (opened k) → keeps k nothing
      → AreOwnRead keeps t at k (record { own = record { first = first; last = first; count = 0; segment = record { start = first; end = first } }; end = first })
  own-start keeps at first k white after held = search (rules, span-none)

  module _ (kept keeps : Stack → Coming → Type 0) (before after : NodesRead) where
    -- one node more
    pub own-more : (Wrote : List ℕ → Type 0) (text_end : ℕ) → before.end < length t → get_or t before.end 0 ≡ 59 → ArePropertiesRead Wrote t (before.end + 1) text_end after.end
        → ((part : List ℕ) → Wrote part → CopiesNode kept keeps t before.end before.own.segment after.own.segment (59 ∷ part))
        → after.own ≡ record { first = before.own.first; last = before.end; count = before.own.count + 1; segment = after.own.segment } → after.own.segment.end ≡ text_end
        → AreNodesRead kept keeps t before after
    own-more Wrote text_end lt e properties copies is end_is =
        let own : OwnNodes = before.own in
        let own' : OwnNodes = after.own in
        let place : ℕ = before.end in
        let first_is : own'.first ≡ own.first = ap (λ (o : OwnNodes). o.first) is in
        let count_is : own'.count ≡ own.count + 1 = ap (λ (o : OwnNodes). o.count) is in
        record {
          rises = omega (arith, properties.rises, properties.white_space.rises);
          more = λ at k read.
              let nodes : List Node = read.nodes in
              let (ps, to, wrote) = read-more at k read.after Wrote place text_end after.end nodes read.to lt e properties in
              let n : Node = record { place = place; properties = ps } in
              let texts : flat_map node_text nodes ++ (59 ∷ flat_map property_text ps) ≡ flat_map node_text (nodes ++ n ∷ []) =
              ap (λ s. flat_map node_text nodes ++ s) (sym (append-nil (59 ∷ flat_map property_text ps))) ∙ sym (flat_map-append node_text nodes (n ∷ [])) in
              let first : length nodes ≡ 0 → place ≡ own'.first = λ none. omega (arith, read.first (omega (arith, read.are.counted)), first_is) in
              record {
                after = read.after;
                nodes = nodes ++ n ∷ [];
                to = to;
                are = grind (arith, common_steps, length-append, first-of, last-of);
                copied =
                    subst (λ first. IsCopied (λ told. keeps k (coming_of (nodes ++ n ∷ []) told)) t first own'.segment (flat_map node_text (nodes ++ n ∷ []))) (sym first_is)
                    (subst (IsCopied (λ told. keeps k (coming_of (nodes ++ n ∷ []) told)) t own.first own'.segment) texts
                    (subst (λ places. IsCopied (λ told. keeps k (record { places = places; told = told })) t own.first own'.segment (flat_map node_text nodes ++ (59 ∷ flat_map property_text ps)))
                    (sym (map-append (λ (m : Node). m.place) nodes (n ∷ [])))
                    (copies (flat_map property_text ps) wrote k (places_of nodes) own.first (flat_map node_text nodes) read.copied)));
                few = omega (arith, read.few, read.ends, properties.rises, end_is, count_is);
                ends = omega (arith, end_is, properties.white_space.rises);
                within = properties.white_space.within;
                first = λ none. absurd (omega arith);
              };
        }

  module _ (keeps : Stack → Coming → Type 0) (at : ℕ) (k : Stack) (read : NodesRead) (own : AreOwnRead keeps t at k read) where
    -- the game with the nodes, of which there is one
    pub record IsOwnGame : Type 0 where
      pub game : UnclosedGame
      pub nothing_below : game.below ≡ no_games
      pub nodes : NodesSoFar t read.end k game
      pub are : AreOwnNodes read.own (own_of game)
      pub copied : IsCopied (λ told. keeps k (coming_of (own_of game) told)) t read.own.first read.own.segment (flat_map node_text (own_of game))

    pub own-game : 0 < read.own.count → IsOwnGame
    own-game some = grind (arith, common_steps)

    -- no further node follows
    pub own-done : (told : Stack → Coming → Type 0) → 0 < read.own.count → (read.end < length t → get_or t read.end 0 ≢ 59)
        → ((k : Stack) (g : UnclosedGame) → AreOwnNodes read.own (own_of g)
        → IsCopied (λ text. keeps k (coming_of (own_of g) text)) t read.own.first read.own.segment (flat_map node_text (own_of g)) → g.below ≡ no_games → told (with_game k g) nothing)
        → unclosed_count k.closed k.unclosed < at → IsGameRead told t read.end k
    own-done told some other tells few = search (rules, own-game, nodes-done)
