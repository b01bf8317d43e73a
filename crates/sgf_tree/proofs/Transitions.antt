-- The machine's steps as a relation: one constructor for each way that a byte takes a state to the next one.
use Rattle.sgf_tree.proofs.Common.{arith, rules, ◌≡◌, ◌≢◌, ℕ, Bool, true, false, ◌==◌, if◌then◌else◌, IsTrue, List, [], ◌∷◌, ◌++◌, Option, Some, None, subst, eqb-true, eqb-false, common_steps, none-some, same_Some, Stack, Started, MachineState, start, first_of_mark, second_of_mark, opened, in_node, in_name, after_name, in_value, after_escape, after_value, after_game, property_of, with_property, ended, close, new_node, after_node, between_games, next_state, is_white_space, is_upper, is_lower, no_games, Property, values}

-- no game, and none unclosed
abbrev pub no_stack : Stack
no_stack = record { closed = no_games; unclosed = [] }

-- between games
pub data Between (k : Stack) : ℕ → MachineState → Type 0 where
  white_between : {b : ℕ} → IsTrue (is_white_space b) → Between k b (after_game k)
  opens_game : Between k 40 (opened k)
  closes_game : {y : MachineState} → close k ≡ Some y → Between k 41 y

-- where a node may end
pub data AfterNode (at : ℕ) (k : Stack) : ℕ → MachineState → Type 0 where
  next_node : AfterNode at k 59 (new_node k false at)
  opens_below : AfterNode at k 40 (opened k)
  closes_nodes : {y : MachineState} → close k ≡ Some y → AfterNode at k 41 y

-- at any state
pub data IsTransition (at : ℕ) : MachineState → ℕ → MachineState → Type 0 where
  mark_first : IsTransition at start 239 first_of_mark
  mark_second : IsTransition at first_of_mark 187 second_of_mark
  mark_third : IsTransition at second_of_mark 191 (after_game no_stack)
  at_start : {b : ℕ} {y : MachineState} → Between no_stack b y → IsTransition at start b y
  at_game : {k : Stack} {b : ℕ} {y : MachineState} → Between k b y → IsTransition at (after_game k) b y
  white_opened : {k : Stack} {b : ℕ} → IsTrue (is_white_space b) → IsTransition at (opened k) b (opened k)
  first_node : {k : Stack} → IsTransition at (opened k) 59 (new_node k true at)
  white_node : {n : Started} {b : ℕ} → IsTrue (is_white_space b) → IsTransition at (in_node n) b (in_node n)
  first_name : {n : Started} {b : ℕ} → IsTrue (is_upper b) → IsTransition at (in_node n) b (in_name n (b ∷ []))
  ends_bare : {n : Started} {b : ℕ} {y : MachineState} → AfterNode at (ended n) b y → IsTransition at (in_node n) b y
  upper_name : {n : Started} {name : List ℕ} {b : ℕ} → IsTrue (is_upper b) → IsTransition at (in_name n name) b (in_name n (name ++ b ∷ []))
  lower_name : {n : Started} {name : List ℕ} {b : ℕ} → IsTrue (is_lower b) → IsTransition at (in_name n name) b (in_name n name)
  white_name : {n : Started} {name : List ℕ} {b : ℕ} → IsTrue (is_white_space b) → IsTransition at (in_name n name) b (after_name n name)
  first_value : {n : Started} {name : List ℕ} → IsTransition at (in_name n name) 91 (in_value n name [] [])
  white_after_name : {n : Started} {name : List ℕ} {b : ℕ} → IsTrue (is_white_space b) → IsTransition at (after_name n name) b (after_name n name)
  later_value : {n : Started} {name : List ℕ} → IsTransition at (after_name n name) 91 (in_value n name [] [])
  ends_value : {n : Started} {name : List ℕ} {before : List (List ℕ)} {value : List ℕ}
      → IsTransition at (in_value n name before value) 93 (after_value n (property_of name before value))
  escapes : {n : Started} {name : List ℕ} {before : List (List ℕ)} {value : List ℕ}
      → IsTransition at (in_value n name before value) 92 (after_escape n name before value)
  ordinary_byte : {n : Started} {name : List ℕ} {before : List (List ℕ)} {value : List ℕ} {b : ℕ} → b ≢ 93 → b ≢ 92
      → IsTransition at (in_value n name before value) b (in_value n name before (value ++ b ∷ []))
  escaped_byte : {n : Started} {name : List ℕ} {before : List (List ℕ)} {value : List ℕ} {b : ℕ}
      → IsTransition at (after_escape n name before value) b (in_value n name before (value ++ 92 ∷ b ∷ []))
  white_value : {n : Started} {p : Property} {b : ℕ} → IsTrue (is_white_space b) → IsTransition at (after_value n p) b (after_value n p)
  next_value : {n : Started} {p : Property} → IsTransition at (after_value n p) 91 (in_value n p.name (values p) [])
  next_name : {n : Started} {p : Property} {b : ℕ} → IsTrue (is_upper b)
      → IsTransition at (after_value n p) b (in_name (with_property n p) (b ∷ []))
  ends_node : {n : Started} {p : Property} {b : ℕ} {y : MachineState} → AfterNode at (ended (with_property n p)) b y → IsTransition at (after_value n p) b y

-- a choice by a test
by_test : (P : MachineState → Type 0) (test : Bool) (x : MachineState) (o : Option MachineState) (y : MachineState)
    → (if test then Some x else o) ≡ Some y → (test ≡ true → P x) → (test ≡ false → o ≡ Some y → P y) → P y
by_test P test x o y h k w = search (rules, same_Some)

-- a choice by the byte
by_byte : (P : ℕ → MachineState → Type 0) (b k : ℕ) (x : MachineState) (o : Option MachineState) (y : MachineState)
    → (if b == k then Some x else o) ≡ Some y → P k x → (b ≢ k → o ≡ Some y → P b y) → P b y
by_byte P b k x o y e passes otherwise = grind (arith, common_steps, by_test, eqb-true, eqb-false)

-- the last choice
at_close : (P : ℕ → MachineState → Type 0) (b : ℕ) (o : Option MachineState) (y : MachineState)
    → (if b == 41 then o else None) ≡ Some y → (o ≡ Some y → P 41 y) → P b y
at_close P b o y e passes = grind (arith, common_steps, eqb-true, none-some)

between : (k : Stack) (b : ℕ) (y : MachineState) → between_games k b ≡ Some y → Between k b y
between k b y e = grind (arith, common_steps, by_test, white_between, by_byte, opens_game, at_close, closes_game)

after : (at : ℕ) (k : Stack) (b : ℕ) (y : MachineState) → after_node at k b ≡ Some y → AfterNode at k b y
after at k b y e = grind (arith, common_steps, by_byte, next_node, opens_below, at_close, closes_nodes)

-- each step is one of them
pub transition : (at : ℕ) (z : MachineState) (b : ℕ) (y : MachineState) → next_state at z b ≡ Some y → IsTransition at z b y
unfolding next_state
transition at start b y e = by_byte (IsTransition at start) b 239 first_of_mark _ y e mark_first (λ _ e. at_start (between no_stack b y e))
transition at first_of_mark b y e = grind (arith, common_steps, by_byte, mark_second, none-some)
transition at second_of_mark b y e = grind (arith, common_steps, by_byte, mark_third, none-some)
transition at (opened k) b y e = grind (arith, common_steps, by_test, white_opened, by_byte, first_node, none-some)
transition at (in_node n) b y e = grind (arith, common_steps, by_test, white_node, first_name, ends_bare, after)
transition at (in_name n name) b y e = grind (arith, common_steps, by_test, upper_name, lower_name, white_name, by_byte, first_value, none-some)
transition at (after_name n name) b y e = grind (arith, common_steps, by_test, white_after_name, by_byte, later_value, none-some)
transition at (in_value n name before value) b y e = grind (arith, common_steps, by_byte, ends_value, escapes, same_Some, ordinary_byte)
transition at (after_escape n name before value) b y e = subst (IsTransition at (after_escape n name before value) b) (same_Some _ y e) escaped_byte
transition at (after_value n p) b y e = grind (arith, common_steps, by_test, white_value, by_byte, next_value, next_name, ends_node, after)
transition at (after_game k) b y e = at_game (between k b y e)
