-- Some bytes complete each state that a text reaches.
use Rattle.sgf_tree.proofs.Common.{◌≡◌, ℕ, ◌+◌, ◌<◌, suc, Bool, false, true, List, [], ◌∷◌, ◌++◌, length, replicate, Some, All, option_and_then, if◌then◌else◌, refl, subst, lit<, rules, All-nil, All-cons, All-replicate, none-some, same_Some, option_and_then_some, UnclosedGame, Stack, Started, MachineState, start, first_of_mark, second_of_mark, opened, in_node, in_name, after_name, in_value, after_escape, after_value, after_game, joined, property_of, with_property, add_node, new_game, new_node, ended, whole_game, close_in, whole_games, next_state, run, accepted, Property, Node, Games, no_games, game, closed-in}
use Rattle.sgf_tree.proofs.Transitions.{Between, white_between, opens_game, closes_game, AfterNode, next_node, opens_below, closes_nodes, no_stack, IsTransition, mark_first, mark_second, mark_third, at_start, at_game, white_opened, first_node, white_node, first_name, ends_bare, upper_name, lower_name, white_name, first_value, white_after_name, later_value, ends_value, escapes, ordinary_byte, escaped_byte, white_value, next_value, next_name, ends_node, transition}

-- a node begins a game, or a game is unclosed around it
abbrev pub Within : Bool → List UnclosedGame → Type 0
Within true gs = Unit {0}
Within false [] = ⊥
Within false (g ∷ gs) = Unit {0}

abbrev pub WithinGame : Started → Type 0
WithinGame n = Within n.opens n.stack.unclosed

-- what holds of each state that a text reaches: a node lies within a game
abbrev pub Reached : MachineState → Type 0
Reached (in_node n) = WithinGame n
Reached (in_name n name) = WithinGame n
Reached (after_name n name) = WithinGame n
Reached (in_value n name before value) = WithinGame n
Reached (after_escape n name before value) = WithinGame n
Reached (after_value n p) = WithinGame n
Reached _ = Unit {0}

reached-close : (closed : Games) (unclosed : List UnclosedGame) (y : MachineState) → close_in closed unclosed ≡ Some y → Reached y
reached-close closed unclosed y h = search (rules, none-some, same_Some, closed-in)

reached-between : {k : Stack} {b : ℕ} {y : MachineState} → Between k b y → Reached y
reached-between h = search (rules, white_between, opens_game, closes_game, reached-close)

within-next : (opens : Bool) (gs : List UnclosedGame) (n m : Node) → Within opens gs
    → Within false (if opens then record { first = n; more = []; below = no_games } ∷ gs else add_node gs m)
within-next opens gs n m h = search rules

reached-after : {at : ℕ} (n : Started) {b : ℕ} {y : MachineState} → WithinGame n → AfterNode at (ended n) b y → Reached y
reached-after n h k = search (rules, next_node, within-next, opens_below, closes_nodes, reached-close)

reached-step : {at : ℕ} {z : MachineState} {b : ℕ} {y : MachineState} → IsTransition at z b y → Reached z → Reached y
reached-step mark_first h = tt
reached-step mark_second h = tt
reached-step mark_third h = tt
reached-step (at_start s) h = reached-between s
reached-step (at_game s) h = reached-between s
reached-step (white_opened w) h = tt
reached-step first_node h = tt
reached-step (white_node w) h = h
reached-step (first_name u) h = h
reached-step (ends_bare {n} s) h = reached-after n h s
reached-step (upper_name u) h = h
reached-step (lower_name u) h = h
reached-step (white_name w) h = h
reached-step first_value h = h
reached-step (white_after_name w) h = h
reached-step later_value h = h
reached-step ends_value h = h
reached-step escapes h = h
reached-step (ordinary_byte x y) h = h
reached-step escaped_byte h = h
reached-step (white_value w) h = h
reached-step next_value h = h
reached-step (next_name u) h = h
reached-step (ends_node {n} {p} s) h = reached-after (with_property n p) h s

pub reached : (at : ℕ) (z y : MachineState) (t : List ℕ) → run at z t ≡ Some y → Reached z → Reached y
unfolding run
reached at z y [] e h = subst Reached (same_Some z y e) h
reached at z y (b ∷ t) e h =
    option_and_then_some (λ next. run (at + 1) next t) (next_state at z b) y e (λ x s f.
    reached (at + 1) x y t f (reached-step (transition at z b x s) h))

-- some bytes complete the state
abbrev Completes : MachineState → List ℕ → Type 0
Completes z r = (at : ℕ) → (c : Games) × (option_and_then accepted (run at z r) ≡ Some c)

abbrev pub Completable : MachineState → Type 0
Completable z = (r : List ℕ) × All (λ b. b < 256) r × Completes z r

-- a byte, and then those that complete the state after it
via : (z : MachineState) (b : ℕ) (y : MachineState) → b < 256 → ((at : ℕ) → next_state at z b ≡ Some y) → Completable y → Completable z
unfolding run
via z b y lt s (r, all, k) = (b ∷ r, All-cons (λ x. x < 256) b r lt all, λ at. let (c, h) = k (at + 1) in (c, rw (s at) h))

whole-some : (closed : Games) (g : UnclosedGame) → (c : Games) × (whole_games (joined closed (whole_game g)) [] ≡ Some c)
whole-some no_games g = (whole_game g, refl)
whole-some (game f m b h) g = (game f m b (joined h (whole_game g)), refl)

-- a `)` for each unclosed game, where a node or a game may end
closing : (z : MachineState) (closed : Games) (g : UnclosedGame) (gs : List UnclosedGame) → ((at : ℕ) → next_state at z 41 ≡ close_in closed (g ∷ gs)) → Completes z (replicate (suc (length gs)) 41)
unfolding run next_state accepted
closing z closed g [] s at = let (c, h) = whole-some closed g in (c, rw (s at) h)
closing z closed g (a ∷ gs) s at =
    let around : UnclosedGame = record { first = a.first; more = a.more; below = joined a.below (whole_game g) } in
    let (c, h) = closing (after_game (record { closed = closed; unclosed = around ∷ gs })) closed around gs (λ _. refl) (at + 1) in
    (c, rw (s at) h)

complete-unclosed : (z : MachineState) (closed : Games) (gs : List UnclosedGame) → ((at : ℕ) → next_state at z 41 ≡ close_in closed gs) → Within false gs → Completable z
complete-unclosed z closed [] s h = absurd h
complete-unclosed z closed (g ∷ gs) s h = (replicate (suc (length gs)) 41, All-replicate (λ b. b < 256) (suc (length gs)) 41 (lit< tt), closing z closed g gs s)

complete-property : (n : Started) (p : Property) → WithinGame n → Completable (after_value n p)
unfolding next_state
complete-property n p h =
    let m : Started = with_property n p in
    let whole : Node = record { place = m.place; properties = m.properties } in
    complete-unclosed (after_value n p) n.stack.closed (ended m).unclosed (λ _. refl) (within-next m.opens m.stack.unclosed whole whole h)

complete-value : (n : Started) (name : List ℕ) (before : List (List ℕ)) (value : List ℕ) → WithinGame n → Completable (in_value n name before value)
unfolding next_state
complete-value n name before value h =
    via (in_value n name before value) 93 (after_value n (property_of name before value)) (lit< tt) (λ _. refl) (complete-property n (property_of name before value) h)

complete-opened : (k : Stack) → Completable (opened k)
unfolding run next_state
complete-opened k =
    let t : List ℕ = replicate (suc (length k.unclosed)) 41 in (
      59 ∷ t,
      All-cons (λ b. b < 256) 59 t (lit< tt) (All-replicate (λ b. b < 256) (suc (length k.unclosed)) 41 (lit< tt)),
      λ at. closing (new_node k true at) k.closed (new_game (record { place = at; properties = [] })) k.unclosed (λ _. refl) (at + 1),
    )

complete-game : (closed : Games) (gs : List UnclosedGame) → Completable (after_game (record { closed = closed; unclosed = gs }))
unfolding run next_state accepted
complete-game no_games [] = via (after_game no_stack) 40 (opened no_stack) (lit< tt) (λ _. refl) (complete-opened no_stack)
complete-game (game f m b h) [] = ([], All-nil (λ b. b < 256), λ at. (game f m b h, refl))
complete-game closed (g ∷ gs) = complete-unclosed (after_game (record { closed = closed; unclosed = g ∷ gs })) closed (g ∷ gs) (λ _. refl) tt

-- each of them can be completed
pub complete : (z : MachineState) → Reached z → Completable z
unfolding next_state
complete start h = via start 40 (opened no_stack) (lit< tt) (λ _. refl) (complete-opened no_stack)
complete first_of_mark h =
    via first_of_mark 187 second_of_mark (lit< tt) (λ _. refl) (via second_of_mark 191 (after_game no_stack) (lit< tt) (λ _. refl) (complete-game no_games []))
complete second_of_mark h = via second_of_mark 191 (after_game no_stack) (lit< tt) (λ _. refl) (complete-game no_games [])
complete (opened k) h = complete-opened k
complete (in_node n) h =
    let whole : Node = record { place = n.place; properties = n.properties } in
    complete-unclosed (in_node n) n.stack.closed (ended n).unclosed (λ _. refl) (within-next n.opens n.stack.unclosed whole whole h)
complete (in_name n name) h = via (in_name n name) 91 (in_value n name [] []) (lit< tt) (λ _. refl) (complete-value n name [] [] h)
complete (after_name n name) h = via (after_name n name) 91 (in_value n name [] []) (lit< tt) (λ _. refl) (complete-value n name [] [] h)
complete (in_value n name before value) h = complete-value n name before value h
complete (after_escape n name before value) h =
    via (after_escape n name before value) 93 (in_value n name before (value ++ 92 ∷ 93 ∷ [])) (lit< tt) (λ _. refl) (complete-value n name before (value ++ 92 ∷ 93 ∷ []) h)
complete (after_value n p) h = complete-property n p h
complete (after_game k) h = complete-game k.closed k.unclosed
