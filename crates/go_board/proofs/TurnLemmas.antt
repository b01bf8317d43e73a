-- What the tests on turns say.
use Rattle.go_board.proofs.Common.{◌≡◌, ℕ, Bool, false, ◌↔◌, List, [], ◌∷◌, Option, Some, None, Contains, IsTrue, refl, sym, cond, arith, ◌<◌, ◌+◌, slice_index_or, Decides, Result, OnErr, IsErrOf, Ok, Err, Colour, play, Grid, Illegal, Reason, Mixed, TwoMoves, BadSetup, BadPoint, Over, Turn, Occupied, Repeat, Stone, must_move, is_occupied, is_repeat, same_grid, reason_of, Forbids, IsFirstReason, rank_of, State, is_over, set_up, MayOnlyRepeat, side_play, side-with_rectangles}
use Rattle.std.specs.List.{list_any}
use Rattle.std.proofs.lemmas.Bool.{false≢true, cases_lt, cases_Bool}
use Rattle.std.proofs.lemmas.Bool.Decides.{Decides-by_or, Decides-and, Decides-not, Decides-like, Decides-eqb, same_from_decides, not_from_Decides}
use Rattle.std.proofs.lemmas.List.Elements.{Decides-contains}
use Rattle.std.proofs.lemmas.Slice.Eq.{slice_eq-Decides}
use Rattle.board_points.specs.declared.points.Point.{Point}
use Rattle.go_board.specs.declared.referee.plays.Play.{Play}
use Rattle.board_stones.specs.declared.setup_op.SetupOp.{SetupOp}
use Rattle.board_stones.specs.Colour.{opponent}
use Rattle.go_board.specs.State.{turned}
use Rattle.board_stones.proofs.GridLemmas.{one_grid, Decides-same_cell}
use Rattle.board_stones.proofs.RuleLemmas.{false_from_Decides}

pub Decides-grids : (g h : Grid) → Decides (same_grid g h) (g ≡ h)
Decides-grids g h = grind (arith, Decides-and, Decides-eqb, Decides-like, Decides-same_cell, one_grid, slice_eq-Decides)

-- a stone repeats a colouring that was seen
pub Decides-is_repeat : (s : State) (k : Colour) (p : Point) → Decides (is_repeat s k (Stone p)) (Contains s.seen (play s.colouring k p))
Decides-is_repeat s k p =
    let made = play s.colouring k p in
    Decides-contains s.seen made _
    (Decides-by_or (same_grid made) (λ g. g ≡ made) (list_any (same_grid made)) (λ g. Decides-like _ sym sym (Decides-grids made g)) refl (λ _ _. refl) s.seen)

-- the first reason of a turn for which none before the last holds
pub reason_of-last : (s : State) (k : Colour) (x : Play) (b : Bool) → is_over s ≡ false → must_move s.player (opponent k) ≡ false → is_occupied s x ≡ false → is_repeat s k x ≡ b → reason_of s k x ≡ cond b (Some Repeat) None
reason_of-last s k x b on turn free repeats = rw (on, turn, free, repeats) refl

-- what holds in any case holds where a call failed
pub on_err : {A E : Type 0} (r : Result A E) (P : Type 0) → P → OnErr r P
on_err (Ok v) P h = tt
on_err (Err e) P h = h

-- a turn refused for the reason that is known is refused for no other
pub refused_for : (known : Option Reason) (q : Reason) → known ≡ Some q → (r : Reason) → IsErrOf {T = Unit {0}} (Err (Illegal q)) (Illegal r) ↔ (known ≡ Some r)
refused_for known q is r = (λ e. cc, λ e. cc)

-- once a past of those colourings answered whether it holds a stone's colouring, the last reason is known
pub reason_by_past : (s : State) (k : Colour) (p : Point) (b : Bool) (seen : List Grid) (made : Grid) → seen ≡ s.seen → made ≡ play s.colouring k p → is_over s ≡ false → must_move s.player (opponent k) ≡ false → is_occupied s (Stone p) ≡ false → (IsTrue b ↔ Contains seen made) → reason_of s k (Stone p) ≡ cond b (Some Repeat) None
reason_by_past s k p b seen made same_seen same_made on turn free has =
    reason_of-last s k (Stone p) b on turn free (same_from_decides _ b (Decides-is_repeat s k p) (rw (same_seen, same_made) at has))

-- once it is known that no past colouring is that of the stone, there is no reason
pub reason_of-new : (s : State) (k : Colour) (p : Point) (seen : List Grid) (made : Grid) → seen ≡ s.seen → made ≡ play s.colouring k p → MayOnlyRepeat s k (Stone p) → (Contains seen made → ⊥) → reason_of s k (Stone p) ≡ None
reason_of-new s k p seen made same_seen same_made left never =
    reason_by_past s k p false seen made same_seen same_made left.0 left.1 left.2
    (λ t. absurd (false≢true t), λ has. absurd (never has))

-- The law of reasons: for any facts that four tests decide, the first test that passes names the first fact that holds.

Decides-must_move : (player : Option Colour) (k : Colour) → Decides (must_move player k) (player ≡ Some k)
Decides-must_move player k = grind (arith, false≢true)

Decides-occupied : (s : State) (k : Colour) (x : Play) → Decides (is_occupied s x) (Forbids s k x Occupied)
Decides-occupied s k x = grind (arith, Decides-not, Decides-same_cell, false≢true)

Decides-repeat : (s : State) (k : Colour) (x : Play) → Decides (is_repeat s k x) (Forbids s k x Repeat)
Decides-repeat s k x = grind (arith, Decides-is_repeat, false≢true)

-- no other reason holds of a turn
never_before : (s : State) (k : Colour) (x : Play) (q : Reason) → rank_of q < 4 → ¬ Forbids s k x q
never_before s k x q h f = grind arith

-- the reason of a rank
abbrev reason_at : ℕ → Reason
reason_at n =
    slice_index_or (Mixed ∷ TwoMoves ∷ BadSetup ∷ BadPoint ∷ Over ∷ Turn ∷ Occupied ∷ Repeat ∷ []) n Mixed

at_its_rank : (q : Reason) → reason_at (rank_of q) ≡ q
at_its_rank q = grind arith

rank_below : (q : Reason) → rank_of q < 8
rank_below q = grind arith

module _ (s : State) (k : Colour) (x : Play) where
  none_up_to : (n : ℕ) → (¬ Forbids s k x (reason_at n)) → ((q : Reason) → rank_of q < n → ¬ Forbids s k x q) → (q : Reason) → rank_of q < n + 1 → ¬ Forbids s k x q
  none_up_to n here before q h f = grind (arith, at_its_rank, cases_lt)

  module _ (b1 b2 b3 b4 : Bool) (over : Decides b1 (Forbids s k x Over)) (turn : Decides b2 (Forbids s k x Turn)) (occupied : Decides b3 (Forbids s k x Occupied)) (repeat : Decides b4 (Forbids s k x Repeat)) where
    none_before_turn : b1 ≡ false → (q : Reason) → rank_of q < 5 → ¬ Forbids s k x q
    none_before_turn e = none_up_to 4 (not_from_Decides b1 over e) (never_before s k x)

    none_before_occupied : b1 ≡ false → b2 ≡ false → (q : Reason) → rank_of q < 6 → ¬ Forbids s k x q
    none_before_occupied e f = none_up_to 5 (not_from_Decides b2 turn f) (none_before_turn e)

    none_before_repeat : b1 ≡ false → b2 ≡ false → b3 ≡ false → (q : Reason) → rank_of q < 7 → ¬ Forbids s k x q
    none_before_repeat e f g = none_up_to 6 (not_from_Decides b3 occupied g) (none_before_occupied e f)

    named_by_tests : (r : Reason) → IsFirstReason s k x r → cond b1 (Some Over) (cond b2 (Some Turn) (cond b3 (Some Occupied) (cond b4 (Some Repeat) None))) ≡ Some r
    named_by_tests r h = grind (arith, false_from_Decides, h.first Over, h.first Turn, h.first Occupied)

    first_by_tests : (r : Reason) → cond b1 (Some Over) (cond b2 (Some Turn) (cond b3 (Some Occupied) (cond b4 (Some Repeat) None))) ≡ Some r → IsFirstReason s k x r
    first_by_tests r e = grind (arith, never_before s k x, none_before_turn, none_before_occupied, none_before_repeat, cases_Bool)

    none_holds : cond b1 (Some Over) (cond b2 (Some Turn) (cond b3 (Some Occupied) (cond b4 (Some Repeat) None))) ≡ None → (q : Reason) → ¬ Forbids s k x q
    none_holds e q = grind (arith, rank_below q, none_up_to 7, none_before_repeat, not_from_Decides)

    none_named : ((q : Reason) → ¬ Forbids s k x q) → cond b1 (Some Over) (cond b2 (Some Turn) (cond b3 (Some Occupied) (cond b4 (Some Repeat) None))) ≡ None
    none_named none = grind (arith, none Over, none Turn, none Occupied, none Repeat)

-- the first reason that the tests name is the first that holds
pub first_reason : (s : State) (k : Colour) (x : Play) (r : Reason) → (reason_of s k x ≡ Some r) ↔ IsFirstReason s k x r
first_reason s k x r =
    let over = Decides-eqb s.passes 2 in
    let turn = Decides-must_move s.player (opponent k) in
    let occupied = Decides-occupied s k x in
    let repeat = Decides-repeat s k x in
    (first_by_tests s k x _ _ _ _ over turn occupied repeat r, named_by_tests s k x _ _ _ _ over turn occupied repeat r)

-- and they name none exactly if none holds
pub no_reason : (s : State) (k : Colour) (x : Play) → (reason_of s k x ≡ None) ↔ ((r : Reason) → ¬ Forbids s k x r)
no_reason s k x =
    let over = Decides-eqb s.passes 2 in
    let turn = Decides-must_move s.player (opponent k) in
    let occupied = Decides-occupied s k x in
    let repeat = Decides-repeat s k x in
    (none_holds s k x _ _ _ _ over turn occupied repeat, none_named s k x _ _ _ _ over turn occupied repeat)

-- setups and turns leave the side
pub side-set_up : (s : State) (ops : List SetupOp) (player : Option Colour) → (set_up s ops player).colouring.side ≡ s.colouring.side
side-set_up s [] player = refl
side-set_up s (op ∷ ops) player = side-with_rectangles s.colouring (op ∷ ops)

pub side-turned : (s : State) (k : Colour) (x : Play) → (turned s k x).colouring.side ≡ s.colouring.side
side-turned s k x = grind (arith, side_play)
