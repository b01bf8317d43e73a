-- How the machine reads properties, nodes and games.
use Rattle.sgf_tree.proofs.Common.{◌≡◌, ℕ, Bool, false, true, IsTrue, List, [], ◌∷◌, Some, refl, sym, ap, ◌∙◌, append_assoc, append-nil, arith, rules, UnclosedGame, Stack, Started, MachineState, opened, in_node, in_name, after_value, after_game, joined, property_of, with_property, add_node, new_game, ended, whole_game, close, new_node, next_state, is_upper, WhiteSpace, prop_value, IsProperty, property, AreProperties, no_property, properties, IsNode, node, AreNodes, no_node, nodes, AreGames, no_game, games, Property, Node, Games, no_games, game, common_steps, upper-not_white_space, upper-not_bracket, closed-in, add_games}
use Rattle.sgf_tree.proofs.Completion.{followed-none, followed_assoc, nodes-none, nodes-more, add_nodes, with_properties}
use Rattle.sgf_tree.proofs.Spans.{Stays}
use Rattle.sgf_tree.proofs.Reading.{read, one-byte, one-node, over-white, over-units, over-values, over-letters, to-value}

-- a state in which a node may end
record AtEnd (n : Started) (z : MachineState) : Type 0 where
  stays : Stays z
  name : (b at : ℕ) → IsTrue (is_upper b) → next_state at z b ≡ Some (in_name n (b ∷ []))
  node : (at : ℕ) → next_state at z 59 ≡ Some (new_node (ended n) false at)
  opens : (at : ℕ) → next_state at z 40 ≡ Some (opened (ended n))
  closes : (at : ℕ) → next_state at z 41 ≡ close (ended n)

bare_end : (n : Started) → AtEnd n (in_node n)
unfolding next_state
bare_end n = search (rules, upper-not_white_space)

value_end : (n : Started) (p : Property) → AtEnd (with_property n p) (after_value n p)
unfolding next_state
value_end n p = search (rules, upper-not_white_space, upper-not_bracket)

-- the end of a node that gives the stack
abbrev EndsAs : Stack → MachineState → Type 0
EndsAs k z = (n : Started) × AtEnd n z × (ended n ≡ k)

games-none : (closed : Games) (unclosed : List UnclosedGame) → add_games closed unclosed no_games ≡ record { closed = closed; unclosed = unclosed }
games-none closed [] = rw followed-none
games-none closed (g ∷ gs) = rw followed-none

games-more : (closed : Games) (unclosed : List UnclosedGame) (a b : Games)
    → add_games (add_games closed unclosed a).closed (add_games closed unclosed a).unclosed b ≡ add_games closed unclosed (joined a b)
games-more closed [] a b = rw followed_assoc
games-more closed (g ∷ gs) a b = rw followed_assoc

module _ (whole : ℕ) where
  over-property : {p : Property} {s r : List ℕ} {n : Started} {z : MachineState} → AtEnd n z → IsProperty p s r
      → read whole z s ≡ read whole (after_value n p) r
  unfolding read next_state
  over-property {n = n} {z = z} a (property {b} {name} {v} {t = t} w h l (prop_value w' u) are) =
      over-white whole z a.stays w
      ∙ one-byte whole z (in_name n (b ∷ [])) b t (λ at. a.name b at h)
      ∙ over-letters whole n (b ∷ []) l
      ∙ to-value whole n (b ∷ name) w'
      ∙ over-units whole n (b ∷ name) [] [] u
      ∙ over-values whole n (property_of (b ∷ name) [] v) are

  -- the state after properties
  over-properties : {ps : List Property} {s r : List ℕ} (n : Started) (z : MachineState) → AtEnd n z → AreProperties ps s r
      → (y : MachineState) × AtEnd (with_properties n ps) y × (read whole z s ≡ read whole y r)
  over-properties n z a no_property = (z, rw append-nil a, refl)
  over-properties n z a (properties {p} is are) = grind (arith, common_steps, append_assoc, over-property, (over-properties (with_property n p) (after_value n p) (value_end n p) are))

  -- a node, from a state that takes its `;`
  over-node : {m : Node} {s r : List ℕ} (z : MachineState) (k : Stack) (opens : Bool) → Stays z
      → ((at : ℕ) → next_state at z 59 ≡ Some (new_node k opens at)) → IsNode whole m s r
      → (y : MachineState) × EndsAs (ended (record { stack = k; opens = opens; place = m.place; properties = m.properties })) y
      × (read whole z s ≡ read whole y r)
  over-node z k opens stays e (node {place} {ps} {t = t} w f are) =
      let n : Started = record { stack = k; opens = opens; place = place; properties = [] } in
      let (y, a, g) = over-properties n (in_node n) (bare_end n) are in
      (y, (with_properties n ps, a, refl), over-white whole z stays w ∙ one-node whole z k opens place t f e ∙ g)

  over-nodes : {ns : List Node} {s r : List ℕ} (k : Stack) (z : MachineState) → EndsAs k z → AreNodes whole ns s r
      → (y : MachineState) × EndsAs (record { closed = k.closed; unclosed = add_nodes k.unclosed ns }) y × (read whole z s ≡ read whole y r)
  over-nodes k z h no_node = (z, rw nodes-none h, refl)
  over-nodes k z (n, a, e) (nodes {n = m} is are) =
      let (x, f, g) = over-node z k false a.stays (λ at. a.node at ∙ ap (λ l. Some (new_node l false at)) e) is in
      let (y, h, i) = over-nodes (record { closed = k.closed; unclosed = add_node k.unclosed m }) x f are in
      (y, rw nodes-more at h, g ∙ i)

  -- a `(` after a game
  to-opened : {s t : List ℕ} (k : Stack) → WhiteSpace s (40 ∷ t) → read whole (after_game k) s ≡ read whole (opened k) t
  unfolding read next_state
  to-opened k w = over-white whole (after_game k) (λ b at h. rw h) w

  -- where a `(` follows, the end of a node is like that of a game
  to-game : {s t : List ℕ} (k : Stack) (z : MachineState) → EndsAs k z → WhiteSpace s (40 ∷ t) → read whole z s ≡ read whole (after_game k) s
  to-game {s} {t} k z (n, a, e) w =
      over-white whole z a.stays w
      ∙ one-byte whole z (opened k) 40 t (λ at. a.opens at ∙ ap (λ l. Some (opened l)) e)
      ∙ sym (to-opened k w)

  -- a `)` after a game, or after a node
  to-closed : {s t : List ℕ} (closed : Games) (g : UnclosedGame) (gs : List UnclosedGame) → WhiteSpace s (41 ∷ t)
      → read whole (after_game (record { closed = closed; unclosed = g ∷ gs })) s
      ≡ read whole (after_game (add_games closed gs (whole_game g))) t
  unfolding next_state
  to-closed {s} {t} closed g gs w =
      let k : Stack = record { closed = closed; unclosed = g ∷ gs } in
      over-white whole (after_game k) (λ b at h. rw h) w
      ∙ one-byte whole (after_game k) (after_game (add_games closed gs (whole_game g))) 41 t (λ at. closed-in closed g gs)

  end-closed : {s t : List ℕ} (closed : Games) (g : UnclosedGame) (gs : List UnclosedGame) (z : MachineState)
      → EndsAs (record { closed = closed; unclosed = g ∷ gs }) z → WhiteSpace s (41 ∷ t)
      → read whole z s ≡ read whole (after_game (add_games closed gs (whole_game g))) t
  end-closed {s} {t} closed g gs z (n, a, e) w =
      over-white whole z a.stays w
      ∙ one-byte whole z (after_game (add_games closed gs (whole_game g))) 41 t
      (λ at. a.closes at ∙ ap close e ∙ closed-in closed g gs)

  -- the games below a node, and the `)` after them
  over-below : {below : Games} {s t r : List ℕ} (closed : Games) (g : UnclosedGame) (gs : List UnclosedGame) (z : MachineState)
      → EndsAs (record { closed = closed; unclosed = g ∷ gs }) z → AreGames whole below s r
      → read whole (after_game (record { closed = closed; unclosed = g ∷ gs })) s
      ≡ read whole (after_game (add_games closed (g ∷ gs) below)) r
      → WhiteSpace r (41 ∷ t)
      → read whole z s ≡ read whole (after_game (add_games closed gs (game g.first g.more (joined g.below below) no_games))) t
  over-below closed g gs z h no_game ih last = rw followed-none (end-closed closed g gs z h last)
  over-below {below} closed g gs z h (games w n ns bs l hs) ih last =
      to-game (record { closed = closed; unclosed = g ∷ gs }) z h w ∙ ih
      ∙ to-closed closed (record { first = g.first; more = g.more; below = joined g.below below }) gs last

  pub over-games : {others : Games} {s r : List ℕ} (closed : Games) (unclosed : List UnclosedGame) → AreGames whole others s r
      → read whole (after_game (record { closed = closed; unclosed = unclosed })) s
      ≡ read whole (after_game (add_games closed unclosed others)) r
  unfolding next_state
  over-games closed unclosed no_game = rw games-none
  over-games closed unclosed (games {first} {more} {below} {after} w n ns bs last hs) =
      let k : Stack = record { closed = closed; unclosed = unclosed } in
      let g : UnclosedGame = record { first = first; more = more; below = no_games } in
      let (x, e, f) = over-node (opened k) k true (λ b at h. rw h) (λ at. refl) n in
      let (y, h, i) = over-nodes (record { closed = closed; unclosed = new_game first ∷ unclosed }) x e ns in
      let l = add_games closed unclosed (game first more below no_games) in
      to-opened k w ∙ f ∙ i
      ∙ over-below closed g unclosed y h bs (over-games closed (g ∷ unclosed) bs) last
      ∙ rw games-more at (over-games l.closed l.unclosed hs)
