-- A byte before a text that completes a state: one lemma for each way that a byte takes a state to the next one.
use Rattle.sgf_tree.proofs.Common.{◌≡◌, ℕ, ◌+◌, IsTrue, List, [], ◌∷◌, length, Some, refl, sym, ap, ◌∙◌, subst, append_assoc, append-nil, none-some, same_Some, no_unit, ordinary, escaped, UnclosedGame, Stack, Started, MachineState, after_game, with_property, ended, whole_game, close_in, is_white_space, is_upper, WhiteSpace, no_white_space, white_space, no_letter, upper, lower, prop_value, no_value, value, property, no_property, properties, IsNode, node, AreNodes, no_node, nodes, AreGames, no_game, games, no_byte_order_mark, byte_order_mark, Property, Node, Games, no_games, game, closed-in, add_games}
use Rattle.sgf_tree.proofs.Transitions.{Between, white_between, opens_game, closes_game, AfterNode, next_node, opens_below, closes_nodes, no_stack, IsTransition, mark_first, mark_second, mark_third, at_start, at_game, white_opened, first_node, white_node, first_name, ends_bare, upper_name, lower_name, white_name, first_value, white_after_name, later_value, ends_value, escapes, ordinary_byte, escaped_byte, white_value, next_value, next_name, ends_node}
use Rattle.sgf_tree.proofs.Completion.{followed-none, followed_assoc, nodes-none, nodes-more, with_values, with_properties, Rest, ends, closes, After_node, In_node, Opened, After_value, In_name, Completes}

module _ (whole : ℕ) (c : Games) where
  rest-white : {closed : Games} {unclosed : List UnclosedGame} {b : ℕ} {t : List ℕ} → IsTrue (is_white_space b)
      → Rest whole c closed unclosed t → Rest whole c closed unclosed (b ∷ t)
  rest-white h (ends no_game w e) = ends no_game (white_space h w) e
  rest-white h (ends (games v first more below last after) w e) = ends (games (white_space h v) first more below last after) w e
  rest-white h (closes no_game w r) = closes no_game (white_space h w) r
  rest-white h (closes (games v first more below last after) w r) = closes (games (white_space h v) first more below last after) w r

  after_node-white : (k : Stack) (b : ℕ) (t : List ℕ) → IsTrue (is_white_space b) → After_node whole c k t → After_node whole c k (b ∷ t)
  after_node-white k b t h (ns, u, no_node, r) = ([], b ∷ u, no_node, rest-white h r)
  after_node-white k b t h (ns, u, nodes (node w e ps) more, r) = (ns, u, nodes (node (white_space h w) e ps) more, r)

  in_node-white : (n : Started) (b : ℕ) (t : List ℕ) → IsTrue (is_white_space b) → In_node whole c n t → In_node whole c n (b ∷ t)
  in_node-white n b t h (ps, u, no_property, r) = ([], b ∷ u, no_property, after_node-white (ended (with_properties n [])) b u h r)
  in_node-white n b t h (ps, u, properties (property w up l v vs) more, r) =
      (ps, u, properties (property (white_space h w) up l v vs) more, r)

  -- a game before the rest
  join : (closed : Games) (unclosed : List UnclosedGame) {f : Node} {m : List Node} {b : Games} {s t u v w x : List ℕ}
      → WhiteSpace s (40 ∷ t) → IsNode whole f t u → AreNodes whole m u v → AreGames whole b v w → WhiteSpace w (41 ∷ x)
      → Rest whole c (add_games closed unclosed (game f m b no_games)).closed (add_games closed unclosed (game f m b no_games)).unclosed x
      → Rest whole c closed unclosed s
  join closed [] w n ns below last (ends more r e) = ends (games w n ns below last more) r (rw followed_assoc at e)
  join closed (g ∷ gs) w n ns below last (closes more r h) = closes (games w n ns below last more) r (rw followed_assoc at h)

  opened-rest : (k : Stack) (t : List ℕ) → Opened whole c k t → Rest whole c k.closed k.unclosed (40 ∷ t)
  opened-rest k t (place, u, w, e, (ps, v, are, (ns, x, more, closes below last r))) =
      join k.closed k.unclosed no_white_space (node w e are) more below last r

  close-rest : (closed : Games) (unclosed : List UnclosedGame) (t : List ℕ) (y : MachineState) → close_in closed unclosed ≡ Some y
      → Completes whole c y t → Rest whole c closed unclosed (41 ∷ t)
  close-rest closed [] t y e h = absurd (none-some y e)
  close-rest closed (g ∷ gs) t y e h =
      let r : Completes whole c (after_game (add_games closed gs (whole_game g))) t =
      subst (λ z. Completes whole c z t) (same_Some y _ (sym e ∙ closed-in closed g gs)) h in
      closes no_game no_white_space (rw followed-none r)

  between : (k : Stack) {b : ℕ} {y : MachineState} (t : List ℕ) → Between k b y → Completes whole c y t → Rest whole c k.closed k.unclosed (b ∷ t)
  between k t (white_between h) r = rest-white h r
  between k t opens_game r = opened-rest k t r
  between k t (closes_game {y} e) r = close-rest k.closed k.unclosed t y e r

  after : (at : ℕ) (k : Stack) {b : ℕ} {y : MachineState} (t : List ℕ) → at + length (b ∷ t) ≡ whole → AfterNode at k b y → Completes whole c y t
      → After_node whole c k (b ∷ t)
  after at k t e next_node (ps, u, are, (ns, v, more, r)) =
      (record { place = at; properties = ps } ∷ ns, v, nodes (node no_white_space e are) more, rw nodes-more at r)
  after at k t e opens_below r = ([], 40 ∷ t, no_node, rw nodes-none (opened-rest k t r))
  after at k t e (closes_nodes {y} h) r = ([], 41 ∷ t, no_node, rw nodes-none (close-rest k.closed k.unclosed t y h r))

  named : (n : Started) (b : ℕ) (t : List ℕ) → IsTrue (is_upper b) → In_name whole c n (b ∷ []) t → In_node whole c n (b ∷ t)
  named n b t h (more, u, letters, (v, w, (first, x, units, (vs, y, are, (ps, z, others, r))))) = (
    record { name = b ∷ more; first = first; more = vs } ∷ ps,
    z,
    properties (property no_white_space h letters (prop_value w units) are) others,
    rw append_assoc at r,
  )

  white-value : (n : Started) (p : Property) (b : ℕ) (t : List ℕ) → IsTrue (is_white_space b)
      → After_value whole c n p t → After_value whole c n p (b ∷ t)
  white-value n p b t h (vs, u, no_value, r) = ([], b ∷ u, no_value, in_node-white (with_property n (with_values p [])) b u h r)
  white-value n p b t h (vs, u, value (prop_value w units) are, r) = (vs, u, value (prop_value (white_space h w) units) are, r)

  -- a byte before a text that completes the state after it
  pub prepend : (at : ℕ) (z : MachineState) (b : ℕ) (y : MachineState) (t : List ℕ) → IsTransition at z b y → at + length (b ∷ t) ≡ whole
      → Completes whole c y t → Completes whole c z (b ∷ t)
  prepend at z b y t mark_first e (s, f, r) = (s, rw f byte_order_mark, r)
  prepend at z b y t mark_second e (s, f, r) = (s, ap (◌∷◌ 187) f, r)
  prepend at z b y t mark_third e r = (t, refl, r)
  prepend at z b y t (at_start h) e r = (b ∷ t, no_byte_order_mark, between no_stack t h r)
  prepend at z b y t (at_game {k} h) e r = between k t h r
  prepend at z b y t (white_opened h) e (place, u, w, f, r) = (place, u, white_space h w, f, r)
  prepend at z b y t first_node e r = (at, t, no_white_space, e, r)
  prepend at z b y t (white_node {n} h) e r = in_node-white n b t h r
  prepend at z b y t (first_name {n} h) e r = named n b t h r
  prepend at z b y t (ends_bare {n} h) e r = ([], b ∷ t, no_property, rw append-nil (after at (ended n) t e h r))
  prepend at z b y t (upper_name h) e (more, u, l, r) = (b ∷ more, u, upper h l, rw append_assoc at r)
  prepend at z b y t (lower_name h) e (more, u, l, r) = (more, u, lower h l, r)
  prepend at z b y t (white_name h) e (u, w, r) = ([], b ∷ t, no_letter, rw append-nil (u, white_space h w, r))
  prepend at z b y t first_value e r = ([], 91 ∷ t, no_letter, rw append-nil (t, no_white_space, r))
  prepend at z b y t (white_after_name h) e (u, w, r) = (u, white_space h w, r)
  prepend at z b y t later_value e r = (t, no_white_space, r)
  prepend at z b y t ends_value e r = ([], t, no_unit, rw append-nil r)
  prepend at z b y t escapes e (d, s, f, (v, u, units, r)) = (92 ∷ d ∷ v, u, rw f (escaped units), rw append_assoc at r)
  prepend at z b y t (ordinary_byte f g) e (v, u, units, r) = (b ∷ v, u, ordinary f g units, rw append_assoc at r)
  prepend at z b y t escaped_byte e r = (b, t, refl, r)
  prepend at z b y t (white_value {n} {p} h) e r = white-value n p b t h r
  prepend at z b y t next_value e (v, u, units, (vs, w, are, r)) = (v ∷ vs, w, value (prop_value no_white_space units) are, rw append_assoc at r)
  prepend at z b y t (next_name {n} {p} h) e r = ([], b ∷ t, no_value, rw append-nil (named (with_property n p) b t h r))
  prepend at z b y t (ends_node {n} {p} h) e r =
      ([], b ∷ t, no_value, rw append-nil ([], b ∷ t, no_property, rw append-nil (after at (ended (with_property n p)) t e h r)))
