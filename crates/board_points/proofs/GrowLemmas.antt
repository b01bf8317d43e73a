-- Filling a set of points, as rows of words: one row grown; the rows that wait, and those that don't.
use Rattle.board_points.proofs.Common.{◌≡◌, ◌≢◌, inl, inr, ℕ, zero, suc, ◌+◌, ◌^◌, ◌<◌, ◌≤◌, ◌||◌, Bool, true, List, length, get_or, set, bit_and, bit_or, refl, sym, ap, ◌∙◌, arith, slice_index, ◌⊎◌, false, not, nat_eq, subst, get_or-set_same, get_or-set_other, or_cases, or_left, or_right, and_parts, and_from, false≢true, cases_eq, cases_Bool, Decides-eqb, common_steps, sum_by-set, Point, has_bit, is_set, IsAmong, IsClosed, Grows, IsPart, HasBeside, row_above, lacking, get_or-eq_default}
use Rattle.board_points.proofs.WordLemmas.{has_bit-or, has_bit-and, has_bit-zero}

-- a point that is set has a row
pub row_below : (rows : List ℕ) (p : Point) → is_set rows p ≡ true → p.row < length rows
row_below rows p is = grind (arith, common_steps, get_or-eq_default, has_bit-zero)

-- the points of rows of which one is written
pub set_there : (rows : List ℕ) (row word : ℕ) → row < length rows → (q : Point) → q.row ≡ row → is_set (set rows row word) q ≡ has_bit word q.col
set_there rows row word within q same = grind (arith, common_steps, get_or-set_same)

pub set_elsewhere : (rows : List ℕ) (row word : ℕ) (q : Point) → q.row ≢ row → is_set (set rows row word) q ≡ is_set rows q
set_elsewhere rows row word q other = ap (λ w. has_bit w q.col) (get_or-set_other rows row q.row word 0 other)

-- what holds of each row but the written one, and of the word there, holds of each
pub each_row : (P : ℕ → ℕ → Type 0) (rows : List ℕ) (row word : ℕ) → row < length rows → ((r : ℕ) → r ≢ row → P r (slice_index rows r)) → P row word → (r : ℕ) → P r (slice_index (set rows row word) r)
each_row P rows row word within others here r =
    elim (cases_eq r row) [
      | inl same ↦ subst (λ k. P k (slice_index (set rows row word) k)) (sym same) (subst (P row) (sym (get_or-set_same rows row word 0 within)) here)
      | inr other ↦ subst (P r) (sym (get_or-set_other rows row r word 0 other)) (others r other)
    ]

pub Grows-twice : (region a b c : List ℕ) → Grows (is_set region) (is_set a) (is_set b) → Grows (is_set region) (is_set b) (is_set c) → Grows (is_set region) (is_set a) (is_set c)
Grows-twice region a b c first second = record {
  within = second.within;
  kept = λ p is. second.kept p (first.kept p is);
  least = λ set closed part. second.least set closed (first.least set closed part);
}

pub Grows-none : (region rows : List ℕ) → IsAmong (is_set rows) (is_set region) → Grows (is_set region) (is_set rows) (is_set rows)
Grows-none region rows within = grind (arith, common_steps)

-- what a row above has in a column
pub above_at : (rows : List ℕ) (r col : ℕ) (q : Point) → q.row + 1 ≡ r → q.col ≡ col → is_set rows q ≡ true → has_bit (row_above rows r) col ≡ true
above_at rows r col q next at is = grind (arith, common_steps)

-- what a row may grow from: its own bits and those around it, where there is region
abbrev pub seed_of : List ℕ → List ℕ → ℕ → ℕ → ℕ
seed_of rows region row beside = bit_and (bit_or (get_or rows row 0) beside) (get_or region row 0)

-- rows of which one has more than before lack less
pub lacking-more : (rows : List ℕ) (row grown : ℕ) → row < length rows → get_or rows row 0 ≤ grown → grown < 2 ^ 64 → grown ≢ get_or rows row 0 → lacking (set rows row grown) < lacking rows
lacking-more rows row grown within more low other = grind (arith, common_steps, sum_by-set)

module _ (rows region : List ℕ) (row beside grown : ℕ) (within_row : row < length rows) (within : IsAmong (is_set rows) (is_set region)) (beside_in : IsPart (has_bit beside) (has_bit (bit_or (row_above rows row) (slice_index rows (row + 1))))) (in_room : IsPart (has_bit grown) (has_bit (get_or region row 0))) (from_seed : IsPart (has_bit (seed_of rows region row beside)) (has_bit grown)) (least : (set : ℕ → Bool) → HasBeside (has_bit (get_or region row 0)) set → IsPart (has_bit (seed_of rows region row beside)) set → IsPart (has_bit grown) set) where
  abbrev grown_rows : List ℕ
  grown_rows = set rows row grown

  own_seed : (col : ℕ) → has_bit (get_or rows row 0) col ≡ true → has_bit (seed_of rows region row beside) col ≡ true
  own_seed col is =
      has_bit-and _ _ col
      ∙ and_from _ _ (has_bit-or (get_or rows row 0) beside col ∙ or_left _ _ is) (within (record { col = col; row = row }) is)

  above_set : (set : Point → Bool) → IsAmong (is_set rows) set → (r col : ℕ) → r ≡ row → has_bit (row_above rows r) col ≡ true → (q : Point) × (q.col ≡ col) × (q.row + 1 ≡ r) × (set q ≡ true)
  above_set set part zero col same is = absurd (false≢true (sym (has_bit-zero col) ∙ is))
  above_set set part (suc r) col same is = (record { col = col; row = r }, refl, omega arith, part (record { col = col; row = r }) is)

  seed_least : (set : Point → Bool) → IsClosed (is_set region) set → IsAmong (is_set rows) set → IsPart (has_bit (seed_of rows region row beside)) (λ col. set (record { col = col; row = row }))
  seed_least set shut part =
      λ col is.
      let both = and_parts _ _ (sym (has_bit-and _ _ col) ∙ is) in
      let p : Point = record { col = col; row = row } in
      elim (or_cases _ _ (sym (has_bit-or (get_or rows row 0) beside col) ∙ both.0)) [
        | inl own ↦ part p own
        | inr near ↦
            elim (or_cases _ _ (sym (has_bit-or (row_above rows row) (slice_index rows (row + 1)) col) ∙ beside_in col near)) [
              | inl up ↦
                  (let found = above_set set part row col refl up in
                  shut p found.0 (inl (sym found.1, inr found.2)) both.1 found.3)
              | inr down ↦
                  (let q : Point = record { col = col; row = row + 1 } in
                  shut p q (inl (refl, inl refl)) both.1 (part q down))
            ]
      ]

  pub Grows-row : Grows (is_set region) (is_set rows) (is_set grown_rows)
  Grows-row = record {
    within = λ p. each_row (λ r w. IsPart (has_bit w) (has_bit (get_or region r 0))) rows row grown within_row
        (λ r _ col is. within (record { col = col; row = r }) is) in_room p.row p.col;
    kept = λ p. each_row (λ r w. IsPart (has_bit (get_or rows r 0)) (has_bit w)) rows row grown within_row
        (λ _ _ _ is. is) (λ col is. from_seed col (own_seed col is)) p.row p.col;
    least = λ set shut part p. each_row (λ r w. IsPart (has_bit w) (λ col. set (record { col = col; row = r }))) rows row grown within_row
        (λ r _ col is. part (record { col = col; row = r }) is)
        (least (λ col. set (record { col = col; row = row }))
        (λ col d differ there at. shut (record { col = col; row = row }) (record { col = d; row = row }) (inr (refl, differ)) there at)
        (seed_least set shut part)) p.row p.col;
  }

-- a word that isn't told from 0
pub zero_of : (n : ℕ) → not (nat_eq n 0) ≡ false → n ≡ 0
zero_of n none = grind (arith, common_steps, Decides-eqb, nat_eq)

-- a set of rows with one more, if it is to be
module _ (word next col : ℕ) (b : Bool) (there : has_bit next col ≡ (has_bit word col || b)) where
  pub taken_with : has_bit next col ≡ false → b ≡ false
  taken_with none = elim (cases_Bool b) [ inl is ↦ absurd (false≢true (sym none ∙ there ∙ or_right _ _ is)) | inr out ↦ out ]

  pub part_with : ((k : ℕ) → k ≢ col → has_bit next k ≡ has_bit word k) → IsPart (has_bit word) (has_bit next)
  part_with elsewhere k is = grind (arith, common_steps, or_left)

  pub from_with : ((k : ℕ) → k ≢ col → has_bit next k ≡ has_bit word k) → (k : ℕ) → has_bit next k ≡ true → (has_bit word k ≡ true) ⊎ (k ≡ col)
  from_with elsewhere k is = elim (cases_eq k col) [ inl same ↦ inr same | inr other ↦ inl (sym (elsewhere k other) ∙ is) ]
