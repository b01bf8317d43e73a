-- A text completes a state to a collection: what the state has read and what the text spells make the collection.
use Rattle.sgf_tree.proofs.Common.{◌≡◌, ℕ, ◌+◌, true, List, [], ◌∷◌, ◌++◌, length, Some, refl, ap, append_assoc, append-nil, rules, IsValue, UnclosedGame, Stack, Started, MachineState, start, first_of_mark, second_of_mark, opened, in_node, in_name, after_name, in_value, after_escape, after_value, after_game, joined, property_of, with_property, add_node, ended, whole_games, WhiteSpace, Letters, ArePropValues, AreProperties, AreNodes, AreGames, ByteOrderMark, Property, Node, Games, no_games, game, add_games}

-- nodes at the end of the innermost unclosed game
abbrev pub add_nodes : List UnclosedGame → List Node → List UnclosedGame
add_nodes [] ns = []
add_nodes (g ∷ gs) ns = record { first = g.first; more = g.more ++ ns; below = g.below } ∷ gs

pub followed-none : (a : Games) → joined a no_games ≡ a
followed-none no_games = refl
followed-none (game f m b h) = ap (game f m b) (followed-none h)

pub followed_assoc : (a b c : Games) → joined (joined a b) c ≡ joined a (joined b c)
followed_assoc no_games b c = refl
followed_assoc (game f m i h) b c = ap (game f m i) (followed_assoc h b c)

pub nodes-none : (gs : List UnclosedGame) → add_nodes gs [] ≡ gs
nodes-none gs = search (rules, append-nil)

pub nodes-more : (gs : List UnclosedGame) (n : Node) (ns : List Node) → add_nodes (add_node gs n) ns ≡ add_nodes gs (n ∷ ns)
nodes-more gs n ns = search (rules, append_assoc)

-- a property with more values
abbrev pub with_values : Property → List (List ℕ) → Property
with_values p vs = record { name = p.name; first = p.first; more = p.more ++ vs }

-- a node with more properties
abbrev pub with_properties : Started → List Property → Started
with_properties n ps = record { stack = n.stack; opens = n.opens; place = n.place; properties = n.properties ++ ps }

-- after a game, or after the nodes of one: games, and the ends of the unclosed ones
pub data Rest (whole : ℕ) (c : Games) : Games → List UnclosedGame → List ℕ → Type 0 where
  ends : {closed others : Games} {t r : List ℕ} → AreGames whole others t r → WhiteSpace r []
      → whole_games (joined closed others) [] ≡ Some c → Rest whole c closed [] t
  closes : {closed below : Games} {g : UnclosedGame} {gs : List UnclosedGame} {t r x : List ℕ} → AreGames whole below t r → WhiteSpace r (41 ∷ x)
      → Rest whole c (add_games closed gs (game g.first g.more (joined g.below below) no_games)).closed
      (add_games closed gs (game g.first g.more (joined g.below below) no_games)).unclosed x
      → Rest whole c closed (g ∷ gs) t

module _ (whole : ℕ) (c : Games) where
  -- where a node has ended: nodes, and the rest
  abbrev pub After_node : Stack → List ℕ → Type 0
  After_node k t = (ns : List Node) × (u : List ℕ) × AreNodes whole ns t u × Rest whole c k.closed (add_nodes k.unclosed ns) u

  abbrev pub In_node : Started → List ℕ → Type 0
  In_node n t = (ps : List Property) × (u : List ℕ) × AreProperties ps t u × After_node (ended (with_properties n ps)) u

  abbrev pub Opened : Stack → List ℕ → Type 0
  Opened k t =
      (place : ℕ) × (u : List ℕ) × WhiteSpace t (59 ∷ u) × (place + length (59 ∷ u) ≡ whole)
      × In_node (record { stack = k; opens = true; place = place; properties = [] }) u

  abbrev pub After_value : Started → Property → List ℕ → Type 0
  After_value n p t = (vs : List (List ℕ)) × (u : List ℕ) × ArePropValues vs t u × In_node (with_property n (with_values p vs)) u

  abbrev pub In_value : Started → List ℕ → List (List ℕ) → List ℕ → List ℕ → Type 0
  In_value n name before value t =
      (v u : List ℕ) × IsValue v t (93 ∷ u) × After_value n (property_of name before (value ++ v)) u

  abbrev pub After_name : Started → List ℕ → List ℕ → Type 0
  After_name n name t = (u : List ℕ) × WhiteSpace t (91 ∷ u) × In_value n name [] [] u

  abbrev pub In_name : Started → List ℕ → List ℕ → Type 0
  In_name n name t = (more u : List ℕ) × Letters more t u × After_name n (name ++ more) u

  -- the text completes the state
  abbrev pub Completes : MachineState → List ℕ → Type 0
  Completes start t = (s : List ℕ) × ByteOrderMark t s × Rest whole c no_games [] s
  Completes first_of_mark t = (s : List ℕ) × (t ≡ 187 ∷ 191 ∷ s) × Rest whole c no_games [] s
  Completes second_of_mark t = (s : List ℕ) × (t ≡ 191 ∷ s) × Rest whole c no_games [] s
  Completes (opened k) t = Opened k t
  Completes (in_node n) t = In_node n t
  Completes (in_name n name) t = In_name n name t
  Completes (after_name n name) t = After_name n name t
  Completes (in_value n name before value) t = In_value n name before value t
  Completes (after_escape n name before value) t =
      (b : ℕ) × (s : List ℕ) × (t ≡ b ∷ s) × In_value n name before (value ++ 92 ∷ b ∷ []) s
  Completes (after_value n p) t = After_value n p t
  Completes (after_game k) t = Rest whole c k.closed k.unclosed t
