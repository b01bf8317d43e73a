-- The group of a stone, and the points beside it.
use Rattle.board_points.proofs.Common.{◌≡◌, ◌≢◌, inl, inr, ℕ, zero, suc, ◌+◌, ◌*◌, ◌/◌, ◌%◌, ◌^◌, ◌<◌, subst, Bool, not, ◌&&◌, ◌||◌, true, false, w64, List, length, set, take, replicate, bit_and, bit_or, slice_index, refl, sym, ap, ◌∙◌, arith, rules, bit_not, trailing_zeros, or_cases, or_left, or_right, or_parts, and_parts, and_from, false≢true, cases_Bool, common_steps, RowStones, Point, HasLiberty, IsLinked, IsLiberty, IsOn, DifferByOne, AreAdjacent, has_bit, is_set, IsAmong, IsClosed, Grows, IsPart, IsInOrBeside, HasOneAlive, IsRowAt}
use Rattle.board_points.proofs.PointLemmas.{AreAdjacent-sym, DifferByOne-sym}
use Rattle.board_points.proofs.GrowLemmas.{set_there, set_elsewhere}
use Rattle.board_points.proofs.WordLemmas.{has_bit-not, in_complement, has_bit-or, has_bit-and, has_bit-left, from_left, has_bit-right, has_bit-zero, column_below}
use Rattle.board_points.proofs.ColumnLemmas.{lowest_left}

-- the columns of two rows and those beside the columns of the row between them
abbrev pub beside_columns : ℕ → ℕ → ℕ → ℕ
beside_columns above here below = bit_or (bit_or (bit_or above below) (here * 2 ^ 1 % 2 ^ 64)) (here / 2 ^ 1)

pub beside_from : (above here below col : ℕ) → has_bit (beside_columns above here below) col ≡ true → IsInOrBeside above here below col
beside_from above here below col is = search (rules, from_left, has_bit-or, has_bit-right, or_cases)

pub beside_to : (above here below col : ℕ) → col < 64 → IsInOrBeside above here below col → has_bit (beside_columns above here below) col ≡ true
beside_to above here below col low is = grind (arith, common_steps, has_bit-left, has_bit-or, has_bit-right, or_left, or_right)

-- a column that two sets have in common
pub common_column : (a b : ℕ) → a < 2 ^ 64 → bit_and a b ≢ 0 → (col : ℕ) × (has_bit a col ≡ true) × (has_bit b col ≡ true)
common_column a b low some =
    let lowest = lowest_left a (bit_and a b) some low (λ c is. (and_parts _ _ (sym (has_bit-and a b c) ∙ is)).0) in
    let both = and_parts _ _ (sym (has_bit-and a b (trailing_zeros w64 (bit_and a b))) ∙ lowest.0) in
    (trailing_zeros w64 (bit_and a b), both.0, both.1)

-- where a word has no column with a liberty, none of its stones has one
pub none_lives : (own others : List ℕ) (row word alive : ℕ) → word < 2 ^ 64 → ((stone : Point) → stone.row ≡ row → stone.col < 64 → HasLiberty own others stone → has_bit alive stone.col ≡ true) → bit_and word alive ≡ 0 → (stone : Point) → stone.row ≡ row → has_bit word stone.col ≡ true → ¬ (HasLiberty own others stone)
none_lives own others row word alive low to none stone at there free =
    false≢true
    (sym (ap (λ w. has_bit w stone.col) none ∙ has_bit-zero stone.col) ∙ has_bit-and word alive stone.col
    ∙ and_from _ _ there (to stone at (column_below 64 word stone.col low there) free))

-- a column of the last word is in neither of the others, if none is in common
pub none_in_both : (a b word col : ℕ) → bit_and (bit_or a b) word ≡ 0 → has_bit word col ≡ true → (has_bit a col ≡ false) × (has_bit b col ≡ false)
none_in_both a b word col none is =
    let both = sym (has_bit-and (bit_or a b) word col ∙ ap (λ x. x && has_bit word col) (has_bit-or a b col)) ∙ ap (λ n. has_bit n col) none ∙ has_bit-zero col in
    or_parts _ _
    (elim (cases_Bool (has_bit a col || has_bit b col)) [
      | inl there ↦ absurd (false≢true (sym both ∙ and_from _ _ there is))
      | inr gone ↦ gone
    ])

pub none_in_front : (n m : ℕ) (words : List ℕ) (p : Point) → words ≡ replicate m 0 → is_set (take n words) p ≡ false
none_in_front n m words p is = grind (arith, common_steps, has_bit-zero, suc, zero)

-- the points around a row that have no stone
module _ (own others : List ℕ) (row : ℕ) (above here below : RowStones) (is_above : IsRowAt own others row 1 above) (is_here : IsRowAt own others row 2 here) (is_below : IsRowAt own others row 3 below) where
  pub free_beside : (col : ℕ) → above.taken < 2 ^ 64 → here.taken < 2 ^ 64 → below.taken < 2 ^ 64 → IsInOrBeside (bit_not w64 above.taken) (bit_not w64 here.taken) (bit_not w64 below.taken) col
      → HasLiberty own others (record { col = col; row = row })
  free_beside col few_above few_here few_below (inl up) =
      let free = in_complement above.taken col few_above up in
      let f = is_above.are_free col free.0 free.1 in
      (f.0, f.2, inl (f.1.0, inl (omega (arith, f.1.1))))
  free_beside col few_above few_here few_below (inr (inl down)) =
      let free = in_complement below.taken col few_below down in
      let f = is_below.are_free col free.0 free.1 in
      (f.0, f.2, inl (f.1.0, inr (omega (arith, f.1.1))))
  free_beside col few_above few_here few_below (inr (inr (d, differ, there))) =
      let free = in_complement here.taken d few_here there in
      let f = is_here.are_free d free.0 free.1 in
      (f.0, f.2, inr (omega (arith, f.1.1), subst (λ n. DifferByOne n col) (sym f.1.0) (DifferByOne-sym col d differ)))

-- the free columns of a row around another one
abbrev pub HasFree : List ℕ → List ℕ → ℕ → ℕ → ℕ → Type 0
HasFree own others row i free =
    (p : Point) → p.row + 2 ≡ row + i → IsOn (length own) p → is_set own p ≡ false → is_set others p ≡ false → has_bit free p.col ≡ true

pub has_free : (own others : List ℕ) (row i taken : ℕ) → length own < 64 → taken < 2 ^ 64
    → ((p : Point) → p.row + 2 ≡ row + i → IsOn (length own) p → is_set own p ≡ false → is_set others p ≡ false → has_bit taken p.col ≡ false) → HasFree own others row i (bit_not w64 taken)
has_free own others row i taken few low is p at on not_own not_other =
    has_bit-not taken p.col low (omega (arith, on.0, few)) ∙ ap not (is p at on not_own not_other)

pub liberty_beside : (own others : List ℕ) (row above here below : ℕ) → HasFree own others row 1 above → HasFree own others row 2 here → HasFree own others row 3 below → (p q : Point) → q.row ≡ row → IsOn (length own) p → AreAdjacent p q → is_set own p ≡ false → is_set others p ≡ false → IsInOrBeside above here below q.col
liberty_beside own others row above here below is_above is_here is_below p q at on adjacent not_own not_other = grind (arith, common_steps, DifferByOne-sym)

-- at first the group is some stones of one row, and has all stones of its row beside them
module _ (own old : List ℕ) (row word : ℕ) (none : (p : Point) → is_set old p ≡ false) (within_row : row < length old) where
  abbrev first : List ℕ
  first = set old row word

  pub of_first : (k : ℕ) → has_bit word k ≡ true → has_bit (slice_index (set old row word) row) k ≡ true
  of_first k is = set_there old row word within_row (record { col = k; row = row }) refl ∙ is

  pub in_first : (p : Point) → is_set (set old row word) p ≡ true → (p.row ≡ row) × (has_bit word p.col ≡ true)
  in_first p is = grind (arith, common_steps, set_elsewhere, set_there)

  pub first_within : IsPart (has_bit word) (has_bit (slice_index own row)) → IsAmong (is_set first) (is_set own)
  first_within part p is = grind (arith, common_steps, in_first)

-- a word has the stones of a row that have a liberty
pub record HaveLibertyInRow (own others : List ℕ) (row found : ℕ) : Type 0 where
  pub from : (col : ℕ) → has_bit found col ≡ true → (has_bit (slice_index own row) col ≡ true) × HasLiberty own others (record { col = col; row = row })
  pub to : (col : ℕ) → col < 64 → has_bit (slice_index own row) col ≡ true → HasLiberty own others (record { col = col; row = row }) → has_bit found col ≡ true

pub HaveLibertyInRow-row : (own others : List ℕ) (row wide : ℕ) → ((col : ℕ) → has_bit wide col ≡ true → HasLiberty own others (record { col = col; row = row })) → ((col : ℕ) → col < 64 → HasLiberty own others (record { col = col; row = row }) → has_bit wide col ≡ true) → HaveLibertyInRow own others row (bit_and (slice_index own row) wide)
HaveLibertyInRow-row own others row wide from to = grind (arith, common_steps, and_from, and_parts, has_bit-and, slice_index)

-- each stone that a group grew by is linked to it
pub part_linked : (own start rows : List ℕ) (from : Point) → Grows (is_set own) (is_set start) (is_set rows) → ((p : Point) → is_set start p ≡ true → IsLinked (is_set own) from p) → (stone : Point) → is_set rows stone ≡ true → (is_set own stone ≡ true) × IsLinked (is_set own) from stone
part_linked own start rows from grows linked stone is =
    (grows.within stone is, λ set closed has. grows.least set closed (λ p there. linked p there set closed has) stone is)

-- a group that grew from stones linked to a stone is linked to it
pub alive_linked : (own others start rows : List ℕ) (from : Point) → Grows (is_set own) (is_set start) (is_set rows) → ((p : Point) → is_set start p ≡ true → IsLinked (is_set own) from p) → HasOneAlive own others rows → (p : Point) × IsLiberty own others from p
alive_linked own others start rows from grows linked alive =
    let part = part_linked own start rows from grows linked alive.0 alive.1 in
    (alive.0, record { own_stone = part.0; linked = part.1; liberty = alive.2 })

-- a stone that is linked to another one is linked back
module _ (region : Point → Bool) (a b : Point) (there : region a ≡ true) (linked : IsLinked region a b) (set : Point → Bool) (closed : IsClosed region set) (has : set b ≡ true) where
  others_of : Point → Bool
  others_of p = region p && not (set p)

  others_closed : IsClosed region others_of
  unfolding others_of
  others_closed p q adjacent is other = grind (arith, common_steps, AreAdjacent-sym, and_from, and_parts, cases_Bool, false≢true)

  linked_set : set a ≡ true
  unfolding others_of
  linked_set =
      elim (cases_Bool (set a)) as (λ _. set a ≡ true) [
        | inl is ↦ is
        | inr out ↦ absurd (false≢true (sym (ap (λ x. not x) has) ∙ (and_parts (region b) (not (set b)) (linked others_of others_closed (and_from _ _ there (ap (λ x. not x) out)))).1))
      ]

pub IsLinked-back : (region : Point → Bool) (a b : Point) → region a ≡ true → IsLinked region a b → IsLinked region b a
IsLinked-back region a b there linked = λ set closed has. linked_set region a b there linked set closed has

-- a stone of a group that has a liberty
pub IsLiberty-linked : (own others : List ℕ) (from point stone : Point) → is_set own from ≡ true → IsLinked (is_set own) from point → IsLiberty own others from stone → IsLiberty own others point stone
IsLiberty-linked own others from point stone there linked lives = record {
  own_stone = lives.own_stone;
  linked = λ set closed has. lives.linked set closed (IsLinked-back (is_set own) from point there linked set closed has);
  liberty = lives.liberty;
}
