-- A stone that stays can repeat a colouring of the stretch only on a point that was emptied.
use Rattle.board_past.proofs.Common.{◌≡◌, ◌≢◌, ◌*◌, ◌||◌, zero, suc, inl, inr, ℕ, Bool, true, false, cond, List, [], ◌∷◌, length, Contains, Result, Ok, ap, sym, subst, ◌∙◌, arith, IsErr, cases_Bool, false≢true, Point, IsOn, is_set, IsAmong, AreRowsOf, Black, Empty, White, Colour, play, same_cell, Grid, cell_at, IsMove, Held, PastColourings, all_of, newest_grid, with_next, stretch_of, present_stretch, AllHaveSide, HaveSide, IsPlayed, WasEmptied, IsFreshStone, HasEmptied, HasAllEmptied, same_or_not, side_play, Decides-same_cell, cell_at-with_cell, cell_at-with_cell_elsewhere, stone_of≢Empty}

-- a colouring that has a stone where the newest has none comes back only where that point was emptied
pub emptied-if_back : (point : Point) (made newest : Grid) (others : List Grid) → cell_at newest point ≡ Empty → cell_at made point ≢ Empty → Contains (newest ∷ others) made → WasEmptied point (newest ∷ others)
emptied-if_back point made newest others none stone (zero, h, e) = absurd (stone (ap (λ (g : Grid). cell_at g point) (sym e) ∙ none))
emptied-if_back point made newest [] none stone (suc k, h, e) = absurd (omega (arith, h))
emptied-if_back point made newest (earlier ∷ others) none stone (suc k, h, e) =
    let here = Decides-same_cell (cell_at earlier point) Empty in
    elim (cases_Bool (same_cell (cell_at earlier point) Empty)) [
      | inl free ↦ inr (emptied-if_back point made earlier others (here.0 free) stone (k, omega (arith, h), e))
      | inr cleared ↦ inl (λ is. false≢true (sym cleared ∙ here.1 is), none)
    ]

-- among the colourings of a stretch, as far as the second one
stretch_goes_on : (b : Bool) (point : Point) (later : Grid) (rest : List Grid) → WasEmptied point (later ∷ cond b [] rest) → (b ≡ false) × WasEmptied point (later ∷ rest)
stretch_goes_on b point later rest was = grind arith

-- a point that was emptied in the present stretch is in a set that has all that were
pub was_in_set : (set : Point → Bool) (side : ℕ) (point : Point) → IsOn side point → (held : List Held) → AllHaveSide side held → HasAllEmptied set held → WasEmptied point (stretch_of held) → set point ≡ true
was_in_set set side point on [] sides all was = absurd was
was_in_set set side point on (later ∷ []) sides all was = absurd (stretch_goes_on later.begins point later.colouring [] was).1
was_in_set set side point on (later ∷ (earlier ∷ others)) sides all was =
    let on_next = stretch_goes_on later.begins point later.colouring (stretch_of (earlier ∷ others)) was in
    elim on_next.1 [
      | inl gone ↦ all.0 on_next.0 point (subst (λ n. IsOn n point) (sym sides.1.0) on) gone.0 gone.1
      | inr before ↦ was_in_set set side point on (earlier ∷ others) sides.1 all.1 before
    ]

-- with more points a set still has all
pub HasAllEmptied-more : (a b : Point → Bool) (held : List Held) → IsAmong a b → HasAllEmptied a held → HasAllEmptied b held
HasAllEmptied-more a b [] among all = tt
HasAllEmptied-more a b (later ∷ []) among all = tt
HasAllEmptied-more a b (later ∷ (earlier ∷ others)) among all =
    (λ goes_on p on stone free. among p (all.0 goes_on p on stone free), HasAllEmptied-more a b (earlier ∷ others) among all.1)

-- a stone empties what it clears, and no other point
pub emptied_by_play : (g : Grid) (k : Colour) (p : Point) (rows : List ℕ) → IsMove g k p rows → HasEmptied (is_set rows) g (play g k p)
emptied_by_play g k p rows move = grind (arith, cases_Bool, cell_at-with_cell_elsewhere, false≢true, same_or_not)

-- a set that got the black and the white stones of a grid has each of its stones
pub all_stones : (g : Grid) (black white before one both : List ℕ) → AreRowsOf g.side (λ p. same_cell (cell_at g p) Black) black → AreRowsOf g.side (λ p. same_cell (cell_at g p) White) white
    → ((p : Point) → is_set one p ≡ (is_set before p || is_set black p)) → ((p : Point) → is_set both p ≡ (is_set one p || is_set white p)) → (p : Point) → IsOn g.side p → cell_at g p ≢ Empty → is_set both p ≡ true
all_stones g black white before one both blacks whites adds more p on some = grind arith

-- What a stone leaves on the grid that it makes, if it isn't cleared at once: itself, and each stone that it doesn't clear.
module _ (g : Grid) (k : Colour) (p : Point) (rows : List ℕ) (all : length g.cells ≡ g.side * g.side) (move : IsMove g k p rows) where
  pub stone_put : is_set rows p ≡ false → cell_at (play g k p) p ≢ Empty
  stone_put stays e = grind (arith, cell_at-with_cell, false≢true, stone_of≢Empty)

  pub stone_left : (q : Point) → IsOn g.side q → cell_at g q ≢ Empty → is_set rows q ≡ false → cell_at (play g k p) q ≢ Empty
  stone_left q on there stays = grind (arith, cell_at-with_cell_elsewhere, false≢true)

-- a stone on a point where no colouring of the present stretch has one makes none of them
pub never_back : (past : PastColourings) (k : Colour) (p : Point) → IsFreshStone (with_next past (play (newest_grid past) k p) false) p → Contains (present_stretch past) (play (newest_grid past) k p) → ⊥
never_back past k p fresh has = fresh.there (fresh.new (play (newest_grid past) k p) has)

-- A stone that stays on a point that isn't in the set: no colouring of the present stretch has a stone there.
module _ (past : PastColourings) (k : Colour) (p : Point) (rows emptied : List ℕ) (all : length (newest_grid past).cells ≡ (newest_grid past).side * (newest_grid past).side) (sides : HaveSide (newest_grid past).side past) (kept : HasAllEmptied (is_set emptied) (all_of past)) (move : IsMove (newest_grid past) k p rows) (fresh : is_set emptied p ≡ false) (stays : is_set rows p ≡ false) where
  none_there : (made : Grid) → cell_at made p ≢ Empty → Contains (present_stretch past) made → ⊥
  none_there made stone has =
      let was = emptied-if_back p made (newest_grid past) (cond past.newest.begins [] (stretch_of past.older)) move.empty stone has in
      false≢true (sym fresh ∙ was_in_set (is_set emptied) (newest_grid past).side p move.on_board (all_of past) sides kept was)

  pub fresh_stone_put : IsFreshStone (with_next past (play (newest_grid past) k p) false) p
  fresh_stone_put = grind (arith, Decides-same_cell, cases_Bool, false≢true, none_there, side_play, stone_put)

-- what becomes of a past when a stone is played: a stone is played, or memory is refused
module _ {E : Type 0} (k : Colour) (p : Point) (old new : PastColourings) where
  pub played_new : (Contains (present_stretch old) (play (newest_grid old) k p) → ⊥) → new ≡ with_next old (play (newest_grid old) k p) false → IsPlayed {E = E} k p old new (Ok true)
  played_new never made = record { known = (λ t. absurd (false≢true (sym t)), λ has. absurd (never has)); ok = made; refused = tt; err = tt }

  pub played_refused : (r : Result Bool E) → IsErr r → (Contains (present_stretch old) (play (newest_grid old) k p) → ⊥) → new ≡ old → IsPlayed k p old new r
  played_refused r is never same = grind (arith, false≢true)
