-- What the words of bits around a point tell of a stone on it.
use Rattle.board_points.proofs.Common.{◌≡◌, ◌≢◌, inl, inr, ℕ, zero, suc, ◌+◌, ◌-◌, ◌*◌, ◌/◌, ◌%◌, ◌^◌, ◌<◌, ◌==◌, true, false, List, length, get_or, bit_and, bit_or, w64, refl, sym, ap, ◌∙◌, arith, subst, rules, bit_not, or_from, or_parts, and_parts, and_cases, and_from, not-true, false≢true, false_from_ne_true, common_steps, bit_at_ones, RowStones, Point, KeepsLiberty, Lives, IsOn, DifferByOne, AreAdjacent, has_bit, is_set, IsOpenBeside, AreColumnsOff, IsInRowAround, IsRowAt, IsNextRow, AreFree, IsLookedAt}
use Rattle.board_points.proofs.WordLemmas.{has_bit-or, has_bit-and, has_bit-left, has_bit-right, has_bit-without, has_bit-zero, column_below}

-- a word of all bits has each column
pub has_bit-full : (c : ℕ) → c < 64 → has_bit (2 ^ 64 - 1) c ≡ true
has_bit-full c low = ap (λ n. n == 1) (bit_at_ones 64 c low)

-- a row around a row of the board
pub row_inside : (own others : List ℕ) (middle i r off : ℕ) → r + 2 ≡ middle + i → r < length own → AreColumnsOff (length own) off
    → IsRowAt own others middle i (record { own = get_or own r 0; others = get_or others r 0; taken = bit_or (bit_or (get_or own r 0) (get_or others r 0)) off })
row_inside own others middle i r off at below is_off = record {
  are_free = λ col low gone.
      let parts = or_parts _ _ (sym (has_bit-or (bit_or (get_or own r 0) (get_or others r 0)) off col) ∙ gone) in
      let stones = or_parts _ _ (sym (has_bit-or (get_or own r 0) (get_or others r 0) col) ∙ parts.0) in
      (record { col = col; row = r }, (refl, at), ((is_off.outside col low parts.1, below), stones.0, stones.1));
  are_own = λ col is. (record { col = col; row = r }, (refl, at), is);
  has_others = λ p there is. ap (λ n. has_bit (get_or others n 0) p.col) (omega (arith, there, at)) ∙ is;
}

-- a row outside the board
pub row_outside : (own others : List ℕ) (middle i : ℕ) → ((p : Point) → p.row + 2 ≡ middle + i → is_set others p ≡ true → ⊥)
    → IsRowAt own others middle i (record { own = 0; others = 0; taken = 2 ^ 64 - 1 })
row_outside own others middle i none = grind (arith, common_steps, false≢true, has_bit-full, has_bit-zero)

pub row_free : (own others : List ℕ) (middle i r off : ℕ) → r + 2 ≡ middle + i → AreColumnsOff (length own) off
    → (p : Point) → p.row + 2 ≡ middle + i → IsOn (length own) p → is_set own p ≡ false → is_set others p ≡ false
    → has_bit (bit_or (bit_or (get_or own r 0) (get_or others r 0)) off) p.col ≡ false
row_free own others middle i r off at is_off p there on not_own not_other = grind (arith, common_steps, has_bit-or, or_from)

-- a row of the board next to a row
pub next_row : (own others : List ℕ) (middle i r : ℕ) → r + 2 ≡ middle + i → r < length own → IsNextRow own others middle i (get_or own r 0) (get_or others r 0)
next_row own others middle i r at below = record {
  has_others = λ p there is. ap (λ n. has_bit (get_or others n 0) p.col) (omega (arith, there, at)) ∙ is;
  is_free = λ col low not_own not_other. (record { col = col; row = r }, (refl, at), ((low, below), not_own, not_other));
}

-- a row next to a row, where the board ends
pub no_next_row : (own others : List ℕ) (middle i : ℕ) → length own < 64 → ((p : Point) → p.row + 2 ≡ middle + i → is_set others p ≡ true → ⊥)
    → IsNextRow own others middle i (2 ^ 64 - 1) 0
no_next_row own others middle i few none = grind (arith, common_steps, false≢true, has_bit-full)

-- no point is free if all columns are taken
pub none_free : (own others : List ℕ) (p : Point) (i : ℕ) → AreFree own others p i (2 ^ 64 - 1)
none_free own others p i col low gone = absurd (false≢true (sym gone ∙ has_bit-full col low))

-- the free points of a row that isn't the point's own
pub free_elsewhere : (own others : List ℕ) (p : Point) (i : ℕ) (row : RowStones) → i ≢ 2 → IsRowAt own others p.row i row → AreFree own others p i row.taken
free_elsewhere own others p i row other is col low gone = grind (arith, common_steps)

-- the point's own row without the point
module _ (own others : List ℕ) (p : Point) (taken : ℕ) (row : RowStones) (there : has_bit taken p.col ≡ true) (left : (k : ℕ) → k ≢ p.col → has_bit taken k ≡ has_bit row.taken k) (is : IsRowAt own others p.row 2 row) where
  pub free_here : AreFree own others p 2 taken
  free_here col low gone =
      let other : (k : ℕ) → k ≡ col → k ≢ p.col = λ k is same. false≢true (sym gone ∙ ap (has_bit taken) (sym is ∙ same) ∙ there) in
      let f = is.are_free col low (sym (left col (other col refl)) ∙ gone) in
      (f.0, f.1, f.2, λ same. other f.0.col f.1.0 (ap (λ (q : Point). q.col) same))

  pub row_here : IsRowAt own others p.row 2 (record { own = row.own; others = row.others; taken = taken })
  row_here = search (rules, free_here)

-- the point beside another one is another
pub apart : (p q : Point) → AreAdjacent p q → q ≢ p
apart p q beside same = grind arith

-- what a look at a row tells
module _ (own others : List ℕ) (p : Point) (i above : ℕ) (row : RowStones) (below : ℕ) (is : IsLookedAt own others p i above row below) (shut : ℕ) (from : (col : ℕ) → col < 64 → has_bit shut col ≡ false → IsOpenBeside above row.taken below col) where
  -- a point of the row has a free point beside it
  pub keeps_liberty : (q : Point) → q.row + 2 ≡ p.row + (i + 1) → q.col < 64 → has_bit shut q.col ≡ false → KeepsLiberty own others p q
  keeps_liberty q at low gone =
      elim (from q.col low gone) [
        | inl up ↦ (let f = is.free_above q.col low up in (f.0, f.2, f.3, inl (sym f.1.0, inr (omega (arith, f.1.1, at)))))
        | inr (inl down) ↦ (let f = is.free_below q.col low down in (f.0, f.2, f.3, inl (sym f.1.0, inl (omega (arith, f.1.1, at)))))
        | inr (inr w) ↦
            let f = is.free_here w.0 w.1 w.3 in
            (f.0, f.2, f.3, inr (omega (arith, f.1.1, at), subst (DifferByOne q.col) (sym f.1.0) w.2))
      ]

  -- a stone of the player beside the point has a liberty
  pub friend_there : (col : ℕ) → shut < 2 ^ 64 → col < 64 → ((q : Point) → IsInRowAround p.row (i + 1) col q → AreAdjacent p q) → has_bit (bit_and row.own (bit_not w64 shut)) col ≡ true → Lives own others p
  friend_there col few low next both =
      let parts = and_parts _ _ (sym (has_bit-without row.own shut col few low) ∙ both) in
      let f = is.stones.are_own col parts.0 in
      inr (f.0, f.2, next f.0 f.1, keeps_liberty f.0 f.1.1 (omega (arith, f.1.0, low)) (ap (has_bit shut) f.1.0 ∙ not-true _ parts.1))

  -- a stone of the opponent keeps a liberty
  pub left_there : (q : Point) → row.others < 2 ^ 64 → ¬ (has_bit (bit_and row.others shut) q.col ≡ true) → q.row + 2 ≡ p.row + (i + 1) → is_set others q ≡ true → KeepsLiberty own others p q
  left_there q low none at set =
      let there = is.stones.has_others q at set in
      keeps_liberty q at (column_below 64 row.others q.col low there) (false_from_ne_true _ (λ shut_there. none (has_bit-and row.others shut q.col ∙ and_from _ _ there shut_there)))

-- where a point of a row isn't shut in, one beside it is open
abbrev IsOpenNext : ℕ → ℕ → Type 0
IsOpenNext here col = (beside : ℕ) × (beside < 64) × DifferByOne col beside × (has_bit here beside ≡ false)

open_left : (here c : ℕ) → c < 64 → has_bit (bit_or (here * 2 ^ 1 % 2 ^ 64) 1) c ≡ false → IsOpenNext here c
open_left here zero low gone =
    let parts = or_parts _ _ (sym (has_bit-or (here * 2 ^ 1 % 2 ^ 64) 1 zero) ∙ gone) in
    absurd (false≢true (sym parts.1))
open_left here (suc d) low gone =
    let parts = or_parts _ _ (sym (has_bit-or (here * 2 ^ 1 % 2 ^ 64) 1 (suc d)) ∙ gone) in
    (d, omega (arith, low), inr (omega arith), sym (has_bit-left here d (omega (arith, low))) ∙ ap (has_bit (here * 2 ^ 1 % 2 ^ 64)) (omega arith) ∙ parts.0)

open_right : (here off c : ℕ) → has_bit off 63 ≡ true → c < 64 → has_bit (bit_or (here / 2 ^ 1) off) c ≡ false → IsOpenNext here c
open_right here off c last low gone = grind (arith, common_steps, false≢true, has_bit-or, or_parts, has_bit-right)

pub open_beside : (above here below off col : ℕ) → has_bit off 63 ≡ true → col < 64
    → has_bit (bit_and (bit_and (bit_and above below) (bit_or (here * 2 ^ 1 % 2 ^ 64) 1)) (bit_or (here / 2 ^ 1) off)) col ≡ false → IsOpenBeside above here below col
open_beside above here below off col last low gone =
    let left = bit_or (here * 2 ^ 1 % 2 ^ 64) 1 in
    let right = bit_or (here / 2 ^ 1) off in
    elim (and_cases _ _ (sym (has_bit-and (bit_and (bit_and above below) left) right col) ∙ gone)) [
      | inl first ↦ elim (and_cases _ _ (sym (has_bit-and (bit_and above below) left col) ∙ first)) [
        | inl both ↦ elim (and_cases _ _ (sym (has_bit-and above below col) ∙ both)) [ inl up ↦ inl up | inr down ↦ inr (inl down) ]
        | inr next ↦ inr (inr (open_left here col low next))
      ]
      | inr next ↦ inr (inr (open_right here off col last low next))
    ]
