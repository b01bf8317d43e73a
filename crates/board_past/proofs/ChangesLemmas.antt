-- Changes that lead back from a colouring to the one before it.
use Rattle.board_past.proofs.Common.{◌≡◌, ◌≢◌, ◌⊎◌, ◌==◌, ℕ, ◌+◌, ◌*◌, ◌<◌, ◌≤◌, inl, inr, Bool, true, false, cond, List, [], ◌∷◌, ◌++◌, length, take, drop, refl, sym, ap, subst, ◌∙◌, append_assoc, length-append, All, slice_index, arith, below_more, append-nil, take-append-drop, length-set, cases_lt, cases_Bool, cases_eq, false≢true, All-nil, All-push, All-head, All-tail, All-weaker, Point, IsOn, has_bit, Cell, Black, White, Empty, Colour, play, same_cell, stone_of, Grid, cell_at, with_cell, with_row, IsMove, Clears, Change, Older, with_change, after_changes, AddsRow, AreOn, IsChangeOn, IsRowOf, IsSameRow, HasRow, KeepRows, MakeOne, step_back, same_or_not, has_bit-zero, one_colouring, cell_at-grid_of, length-grid_of, cell_at-with_cell, cell_at-with_cell_elsewhere, row_below}
use Rattle.std.proofs.lemmas.Bool.Decides.{Decides-eqb}
use Rattle.board_stones.proofs.RuleLemmas.{false_from_Decides}

-- what stands in a row once it is changed
abbrev stone_of_bits : Bool → Bool → Cell
stone_of_bits black white = cond white White (cond black Black Empty)

side-changed : (g : Grid) (c : Change) → (with_change g c).side ≡ g.side
unfolding with_row
side-changed g c = refl

length-changed : (g : Grid) (c : Change) → length (with_change g c).cells ≡ g.side * g.side
unfolding with_row
length-changed g c = length-grid_of g.side _

cell_at-changed : (g : Grid) (c : Change) (p : Point) → IsOn g.side p → cell_at (with_change g c) p ≡ cond (p.row == c.row) (stone_of_bits (has_bit c.black p.col) (has_bit c.white p.col)) (cell_at g p)
unfolding with_row
cell_at-changed g c p on = cell_at-grid_of g.side (λ q. cond (q.row == c.row) (stone_of_bits (has_bit c.black q.col) (has_bit c.white q.col)) (cell_at g q)) p on

-- the side stays, and so does the number of cells
pub after-side : (g : Grid) (cs : List Change) → (after_changes g cs).side ≡ g.side
after-side g [] = refl
after-side g (x ∷ xs) = side-changed (after_changes g xs) x ∙ after-side g xs

pub after-length : (g : Grid) (cs : List Change) → length g.cells ≡ g.side * g.side → length (after_changes g cs).cells ≡ g.side * g.side
after-length g [] all = all
after-length g (x ∷ xs) all = length-changed (after_changes g xs) x ∙ ap (λ n. n * n) (after-side g xs)

pub step-side : (g : Grid) (o : Older) (cs : List Change) → (step_back g o cs).side ≡ g.side
step-side g o cs = grind (arith, after-side, cases_Bool)

pub after-append : (g : Grid) (cs more : List Change) → after_changes g (cs ++ more) ≡ after_changes (after_changes g more) cs
after-append g [] more = refl
after-append g (x ∷ xs) more = ap (λ (h : Grid). with_change h x) (after-append g xs more)

-- a row of a colouring, put back, has what stood there
stone_back : (c : Cell) → stone_of_bits (same_cell c Black) (same_cell c White) ≡ c
stone_back c = grind arith

row_back : (old g : Grid) (c : Change) → g.side ≡ old.side → IsRowOf old c → (p : Point) → IsOn old.side p → c.row ≡ p.row → cell_at (with_change g c) p ≡ cell_at old p
row_back old g c side is p on at = grind (arith, Decides-eqb, cell_at-changed, stone_back)

other_row : (g : Grid) (c : Change) (p : Point) → IsOn g.side p → c.row ≢ p.row → cell_at (with_change g c) p ≡ cell_at g p
other_row g c p on other = grind (arith, Decides-eqb, cell_at-changed, false_from_Decides)

-- rows of a colouring leave it as it is
unchanged : (old : Grid) (cs : List Change) → All (IsRowOf old) cs → (p : Point) → IsOn old.side p → cell_at (after_changes old cs) p ≡ cell_at old p
unchanged old [] are p on = refl
unchanged old (c ∷ cs) are p on = elim (cases_eq c.row p.row) [
  | inl at ↦ row_back old (after_changes old cs) c (after-side old cs) (All-head (IsRowOf old) c cs are) p on at
  | inr other ↦ other_row (after_changes old cs) c p (subst (λ n. IsOn n p) (sym (after-side old cs)) on) other ∙ unchanged old cs (All-tail (IsRowOf old) c cs are) p on
]

same_row : (g h : Grid) (c : Change) (p : Point) → IsOn g.side p → IsOn h.side p → c.row ≡ p.row → cell_at (with_change g c) p ≡ cell_at (with_change h c) p
same_row g h c p on_g on_h at = grind (arith, Decides-eqb, cell_at-changed)

either_first : (g : Grid) (c d : Change) → c.row ≢ d.row → with_change (with_change g c) d ≡ with_change (with_change g d) c
either_first g c d apart = grind (arith, cases_eq, length-changed, one_colouring, other_row, same_row, side-changed)

-- changes make the same of two grids on each point of a row of their own, and on each point on which the grids agree
same_after : (g h : Grid) (cs : List Change) → g.side ≡ h.side → (p : Point) → IsOn g.side p → HasRow p.row cs ⊎ (cell_at g p ≡ cell_at h p) → cell_at (after_changes g cs) p ≡ cell_at (after_changes h cs) p
same_after g h [] side p on (inl none) = absurd none
same_after g h [] side p on (inr same) = same
same_after g h (c ∷ cs) side p on at =
    let on_g : IsOn (after_changes g cs).side p = subst (λ n. IsOn n p) (sym (after-side g cs)) on in
    let on_h : IsOn (after_changes h cs).side p = subst (λ n. IsOn n p) (sym (after-side h cs ∙ sym side)) on in
    elim (cases_eq c.row p.row) [
      | inl here ↦ same_row (after_changes g cs) (after_changes h cs) c p on_g on_h here
      | inr other ↦
          other_row (after_changes g cs) c p on_g other
          ∙ same_after g h cs side p on (elim at [
            | inl (inl here) ↦ absurd (other here)
            | inl (inr later) ↦ inl later
            | inr same ↦ inr same
          ])
          ∙ sym (other_row (after_changes h cs) c p on_h other)
    ]

-- so of the changes of one row the first one counts
module _ (g : Grid) (cells : length g.cells ≡ g.side * g.side) (cs : List Change) where
  same_front : (h : Grid) → h.side ≡ g.side → length h.cells ≡ h.side * h.side → ((p : Point) → IsOn g.side p → HasRow p.row cs ⊎ (cell_at h p ≡ cell_at g p)) → after_changes h cs ≡ after_changes g cs
  same_front h side cells_h each =
      let side_h = after-side h cs in
      let side_g = after-side g cs in
      one_colouring (after_changes h cs) (after_changes g cs) (side_h ∙ side ∙ sym side_g)
      (after-length h cs cells_h ∙ ap (λ n. n * n) (sym side_h))
      (after-length g cs cells ∙ ap (λ n. n * n) (sym side_g))
      (λ p at.
      let on : IsOn h.side p = subst (λ n. IsOn n p) side_h at in
      same_after h g cs side p on (each p (subst (λ n. IsOn n p) side on)))

  -- changes of rows that have come count for nothing
  all_come : (more : List Change) → ((row : ℕ) → row < g.side → HasRow row cs) → after_changes g (cs ++ more) ≡ after_changes g cs
  all_come more come = grind (arith, after-append, after-length, after-side, same_front)

  one_come : (c : Change) → HasRow c.row cs → after_changes g (cs ++ c ∷ []) ≡ after_changes g cs
  one_come c come = grind (arith, after-append, cases_eq, length-changed, other_row, same_front, side-changed)

-- a change of another row can be made before the others
one_more : (g : Grid) (cs : List Change) (c : Change) → (HasRow c.row cs → ⊥) → after_changes g (cs ++ c ∷ []) ≡ with_change (after_changes g cs) c
one_more g [] c none = refl
one_more g (x ∷ xs) c none =
    ap (λ (h : Grid). with_change h x) (one_more g xs c (λ later. none (inr later)))
    ∙ either_first (after_changes g xs) c x (λ same. none (inl (sym same)))

has_row-front : (row : ℕ) (xs : List Change) (c : Change) → HasRow row xs → HasRow row (xs ++ c ∷ [])
has_row-front row [] c has = absurd has
has_row-front row (x ∷ xs) c (inl at) = inl at
has_row-front row (x ∷ xs) c (inr later) = inr (has_row-front row xs c later)

has_row-last : (row : ℕ) (xs : List Change) (c : Change) → c.row ≡ row → HasRow row (xs ++ c ∷ [])
has_row-last row [] c at = inl at
has_row-last row (x ∷ xs) c at = inr (has_row-last row xs c at)

has_row-parts : (row : ℕ) (xs : List Change) (c : Change) → HasRow row (xs ++ c ∷ []) → HasRow row xs ⊎ (c.row ≡ row)
has_row-parts row [] c (inl at) = inr at
has_row-parts row [] c (inr none) = absurd none
has_row-parts row (x ∷ xs) c (inl at) = inl (inl at)
has_row-parts row (x ∷ xs) c (inr later) = elim (has_row-parts row xs c later) [ inl before ↦ inl (inr before) | inr at ↦ inr at ]

-- what is kept of the first rows
pub kept_none : (old new : Grid) (all : Bool) (cs : List Change) → KeepRows old new all 0 cs cs
kept_none old new all cs = record { more = []; added = sym (append-nil cs); are = All-nil (IsRowOf old); few = omega arith; each = λ r low. absurd (omega (arith, low)) }

module _ {old new : Grid} {all : Bool} {row : ℕ} {a b : List Change} (h : KeepRows old new all row a b) where
  pub kept_more : {next : List Change} → AddsRow old row b next → KeepRows old new all (row + 1) a next
  kept_more adds = record {
    more = h.more ++ adds.change ∷ [];
    added = adds.added ∙ ap (λ xs. xs ++ adds.change ∷ []) h.added ∙ append_assoc a h.more (adds.change ∷ []);
    are = All-push (IsRowOf old) h.more adds.change h.are adds.is;
    few = omega (arith, h.few, length-append h.more (adds.change ∷ []));
    each = below_more (λ r. HasRow r (h.more ++ adds.change ∷ []) ⊎ ((all ≡ false) × IsSameRow old new r)) row
        (λ r low. elim (h.each r low) [ inl there ↦ inl (has_row-front r h.more adds.change there) | inr same ↦ inr same ]) (inl (has_row-last row h.more adds.change adds.at));
  }

  pub kept_same : all ≡ false → IsSameRow old new row → KeepRows old new all (row + 1) a b
  kept_same none same = record {
    more = h.more;
    added = h.added;
    are = h.are;
    few = omega (arith, h.few);
    each = below_more (λ r. HasRow r h.more ⊎ ((all ≡ false) × IsSameRow old new r)) row h.each (inr (none, same));
  }

-- rows that stay as they are needn't be kept
pub kept_rest : {old new : Grid} {all : Bool} {row : ℕ} {a b : List Change} → KeepRows old new all row a b → (count : ℕ) → row ≤ count → ((r : ℕ) → row ≤ r → r < count → (all ≡ false) × IsSameRow old new r) → KeepRows old new all count a b
kept_rest {row = row} h count high same = record {
  more = h.more;
  added = h.added;
  are = h.are;
  few = omega (arith, h.few, high);
  each = λ r low. elim (cases_lt r row) [ inl before ↦ h.each r before | inr rest ↦ inr (same r rest low) ];
}

-- a row that has neither the stone nor what it clears
pub row_kept : (g : Grid) (k : Colour) (p : Point) (cleared : List ℕ) (row : ℕ) → IsMove g k p cleared → row < g.side → row ≢ p.row → slice_index cleared row ≡ 0 → IsSameRow g (play g k p) row
row_kept g k p cleared row move low other none = λ col left.
    let q : Point = record { col = col; row = row } in
    sym (move.cleared.played.kept q (left, low) (λ gone. false≢true (sym (ap (λ w. has_bit w col) none ∙ has_bit-zero col) ∙ gone))
    ∙ cell_at-with_cell_elsewhere g p q (stone_of k) move.on_board (left, low) (λ same. other (ap (λ (x : Point). x.row) same)))

pub play_cells : (g : Grid) (k : Colour) (p : Point) (cleared : List ℕ) → length g.cells ≡ g.side * g.side → Clears g k p cleared → length (play g k p).cells ≡ (play g k p).side * (play g k p).side
play_cells g k p cleared all takes = grind (arith, length-set)

-- a stone that clears nothing, removed again
pub alone_back : (g : Grid) (k : Colour) (p : Point) (cleared : List ℕ) → length g.cells ≡ g.side * g.side → IsMove g k p cleared → length cleared ≡ 0 → with_cell (play g k p) p Empty ≡ g
alone_back g k p cleared cells move none = grind (arith, cell_at-with_cell, cell_at-with_cell_elsewhere, length-set, one_colouring, play_cells, row_below, same_or_not)

-- the rows kept lead back to the colouring, from the one that they are kept for, and if all are kept, from any
module _ {old new : Grid} {all : Bool} {a b : List Change} (cells : length old.cells ≡ old.side * old.side) (h : KeepRows old new all old.side a b) where
  back : (g : Grid) → g.side ≡ old.side → length g.cells ≡ g.side * g.side → ((row : ℕ) → row < old.side → HasRow row h.more ⊎ IsSameRow old g row) → after_changes g h.more ≡ old
  back g side all_cells each =
      one_colouring (after_changes g h.more) old (after-side g h.more ∙ side) (after-length g h.more all_cells ∙ ap (λ n. n * n) (sym (after-side g h.more))) cells
      (λ p at.
      let on : IsOn old.side p = subst (λ n. IsOn n p) (after-side g h.more ∙ side) at in
      same_after g old h.more side p (subst (λ n. IsOn n p) (sym side) on) (elim (each p.row on.1) [ inl there ↦ inl there | inr same ↦ inr (sym (same p.col on.0)) ]) ∙ unchanged old h.more h.are p on)

  pub leads_back : new.side ≡ old.side → length new.cells ≡ new.side * new.side → after_changes new h.more ≡ old
  leads_back side new_cells = back new side new_cells (λ row low. elim (h.each row low) [ inl there ↦ inl there | inr same ↦ inr same.1 ])

  pub makes_one : all ≡ true → MakeOne old h.more
  makes_one is g side g_cells = back g side g_cells (λ row low. elim (h.each row low) [ inl there ↦ inl there | inr same ↦ absurd (false≢true (sym same.0 ∙ is)) ])

  pub kept_on : AreOn old.side h.more
  kept_on = All-weaker (IsRowOf old) (IsChangeOn old.side) (λ c is. is.on) h.more h.are

-- Changes made from the first on. What is left are the rows of which none has come.
pub record IsMade (g h : Grid) (cs : List Change) (left : ℕ) : Type 0 where
  pub board : h ≡ after_changes g cs
  pub come : (row : ℕ) → row < g.side → has_bit left row ≡ false → HasRow row cs
  pub none : (row : ℕ) → has_bit left row ≡ true → HasRow row cs → ⊥

module _ (g h : Grid) (cells : length g.cells ≡ g.side * g.side) (cs : List Change) (left : ℕ) (made : IsMade g h cs left) where
  pub made-whole : (all : List Change) (i : ℕ) → cs ≡ take i all → left ≡ 0 → h ≡ after_changes g all
  made-whole all i is gone =
      made.board
      ∙ sym (all_come g cells cs (drop i all) (λ row low. made.come row low (ap (λ n. has_bit n row) gone ∙ has_bit-zero row)))
      ∙ ap (after_changes g) (ap (λ xs. xs ++ drop i all) is ∙ take-append-drop i all)

  pub made-more : (h' : Grid) (left' : ℕ) (c : Change) → has_bit left c.row ≡ true → h' ≡ with_change h c → has_bit left' c.row ≡ false → ((row : ℕ) → row ≢ c.row → has_bit left' row ≡ has_bit left row) → IsMade g h' (cs ++ c ∷ []) left'
  made-more h' left' c there is gone elsewhere = grind (arith, cases_eq, has_row-front, has_row-last, has_row-parts, one_more)

  pub made-passed : (c : Change) → c.row < g.side → has_bit left c.row ≡ false → IsMade g h (cs ++ c ∷ []) left
  made-passed c low gone = grind (arith, has_row-front, has_row-parts, one_come)
