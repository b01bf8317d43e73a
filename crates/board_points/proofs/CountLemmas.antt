-- Counting points by the bits of words.
use Rattle.board_points.proofs.Common.{◌≡◌, ℕ, zero, suc, ◌+◌, ◌*◌, ◌^◌, ◌%◌, ◌<◌, ◌≤◌, ◌==◌, ◌&&◌, Bool, true, not, IsTrue, List, map, get_or, bit_and, count_ones, refl, sym, ap, ◌∙◌, arith, w64, pow_pos, bit_not, range_with_len, and_parts, cases_lt, false_from_ne_true, common_steps, length-map, sum_by-map-range_with_len_more, sum-map, and_le_l, ones-le, ones_cat, mod-pow-add, mod_below, bit_at-lt, bit_at_above, same_from_bits, Point, IsOn, point_at, points, has_bit, is_set, count_apart, cond, count_by, sum, sum_by, add_assoc}
use lib.Count.{ones}
use Rattle.board_points.proofs.PointLemmas.{point_at-index_of, is_map-points, length-points, IsOn-point_at, index_of-point_at, get_or-map-points}
use Rattle.board_points.proofs.WordLemmas.{has_bit-and, has_bit-without, bit_at-gone, bit_at-mod}

ones_of_bit : (n : ℕ) → n < 2 → count_ones n ≡ cond (n == 1) 1 0
unfolding ones
ones_of_bit n h = grind (arith, common_steps)

-- one column more
ones_more : (n c : ℕ) → count_ones (n % 2 ^ (1 + c)) ≡ count_ones (n % 2 ^ c) + cond (has_bit n c) 1 0
ones_more n c = grind (arith, common_steps, bit_at-lt, mod-pow-add, mod_below, ones_cat, ones_of_bit, pow_pos)

-- a word whose bits are all below k
pub below_from_bits : (n k : ℕ) → ((c : ℕ) → has_bit n c ≡ true → c < k) → n % 2 ^ k ≡ n
below_from_bits n k each =
    same_from_bits (n % 2 ^ k) n
    (λ i. grind (arith, common_steps, cases_lt, bit_at-mod, bit_at_above, mod_below, pow_pos, bit_at-gone, false_from_ne_true))

module _ (side : ℕ) (test : Point → Bool) where
  counted : ℕ → ℕ
  counted n = sum_by (λ p. cond (test p) 1 0) (map (point_at side) (range_with_len 0 n))

  counted_row : (row word c : ℕ) → row < side → c ≤ side → ((col : ℕ) → col < side → test (record { col = col; row = row }) ≡ has_bit word col) → counted (row * side + c) ≡ counted (row * side) + count_ones (word % 2 ^ c)
  unfolding counted
  counted_row row word zero on fits same =
      let none : word % 2 ^ 0 ≡ 0 = omega arith in
      let base : row * side + 0 ≡ row * side = omega arith in
      omega (arith, ap counted base, ap count_ones none ∙ ones_of_bit 0 (omega arith))
  counted_row row word (suc c) on fits same =
      let at : point_at side (row * side + c) ≡ record { col = c; row = row } = point_at-index_of side (record { col = c; row = row }) (omega arith, on) in
      let next : row * side + suc c ≡ (row * side + c) + 1 = omega arith in
      let width : suc c ≡ 1 + c = omega arith in
      ap counted next
      ∙ sum_by-map-range_with_len_more (λ p. cond (test p) 1 0) (point_at side) 0 (row * side + c) (row * side + c) (omega arith)
      ∙ ap (λ b. counted (row * side + c) + cond b 1 0) (ap test at ∙ same c (omega arith))
      ∙ ap (λ m. m + cond (has_bit word c) 1 0) (counted_row row word c on (omega arith) same)
      ∙ add_assoc (counted (row * side)) (count_ones (word % 2 ^ c)) (cond (has_bit word c) 1 0)
      ∙ ap (λ m. counted (row * side) + m) (sym (ones_more word c) ∙ ap (λ k. count_ones (word % 2 ^ k)) (sym width))

-- how many of the points of the first rows are set in the one and not in the other
abbrev pub apart_before : ℕ → List ℕ → List ℕ → ℕ → ℕ
apart_before side rows others n = count_by (λ p. is_set rows p && not (is_set others p)) (map (point_at side) (range_with_len 0 (n * side)))

apart_more : (side : ℕ) (rows others : List ℕ) (row : ℕ) → side ≤ 52 → row < side → get_or others row 0 < 2 ^ 64 → ((p : Point) → IsTrue (is_set rows p) → IsOn side p) → apart_before side rows others (row + 1) ≡ apart_before side rows others row + count_ones (bit_and (get_or rows row 0) (bit_not w64 (get_or others row 0)))
unfolding counted
apart_more side rows others row small on low board =
    let word = bit_and (get_or rows row 0) (bit_not w64 (get_or others row 0)) in
    let test : Point → Bool = λ p. is_set rows p && not (is_set others p) in
    let all : word % 2 ^ side ≡ word =
    below_from_bits word side (λ c is. (board (record { col = c; row = row }) (and_parts _ _ (sym (has_bit-and _ _ c) ∙ is)).0).0) in
    let next : (row + 1) * side ≡ row * side + side = omega arith in
    ap (λ n. count_by test (map (point_at side) (range_with_len 0 n))) next
    ∙ counted_row side test row word side on (omega arith)
    (λ col below. sym (has_bit-without (get_or rows row 0) (get_or others row 0) col low (omega (arith, below, small))))
    ∙ ap (λ w. apart_before side rows others row + count_ones w) all

count_apart-all : (side : ℕ) (rows others : List ℕ) → apart_before side rows others side ≡ count_apart side rows others
unfolding count_apart points
count_apart-all side rows others = refl

-- `count` is how many points of the first rows are in the one set and not in the other
pub record IsCounted (side : ℕ) (rows others : List ℕ) (row count : ℕ) : Type 0 where
  pub value : count ≡ apart_before side rows others row
  pub few : count ≤ row * 64

pub counted_more : (side : ℕ) (rows others : List ℕ) (row word other count : ℕ) → IsCounted side rows others row count → side ≤ 52 → row < side → get_or rows row 0 ≡ word → get_or others row 0 ≡ other → word < 2 ^ 64 → other < 2 ^ 64 → ((p : Point) → IsTrue (is_set rows p) → IsOn side p) → IsCounted side rows others (row + 1) (count + count_ones (bit_and word (bit_not w64 other)))
counted_more side rows others row word other count was small on is_word is_other low low_other board =
    let same : count_ones (bit_and (get_or rows row 0) (bit_not w64 (get_or others row 0))) ≡ count_ones (bit_and word (bit_not w64 other)) = rw (is_word, is_other) in
    record {
      value = omega (arith, was.value, apart_more side rows others row small on (omega (arith, is_other, low_other)) board, same);
      few = omega (arith, was.few, ones-le 64 (bit_and word (bit_not w64 other)) (omega (arith, low, and_le_l word (bit_not w64 other))));
    }

pub counted_all : (side : ℕ) (rows others : List ℕ) (row count : ℕ) → IsCounted side rows others row count → row ≡ side → count ≡ count_apart side rows others
counted_all side rows others row count is end = is.value ∙ ap (apart_before side rows others) end ∙ count_apart-all side rows others

-- two tests that agree on the points of the grid count the same
pub count_alike : (side : ℕ) (p q : Point → Bool) → ((r : Point) → IsOn side r → p r ≡ q r) → count_by p (points side) ≡ count_by q (points side)
count_alike side p q alike =
    let f : Point → ℕ = λ r. cond (p r) 1 0 in
    let g : Point → ℕ = λ r. cond (q r) 1 0 in
    let same : map f (points side) ≡ map g (points side) =
    is_map-points g side (map f (points side)) 0 (length-map (points side) f ∙ length-points side)
    (λ i below.
    let on = IsOn-point_at side i below in
    ap (λ j. get_or (map f (points side)) j 0) (sym (index_of-point_at side i below))
    ∙ get_or-map-points f side (point_at side i) 0 on
    ∙ ap (λ b. cond b 1 0) (alike (point_at side i) on)) in
    sym (sum-map f (points side)) ∙ ap sum same ∙ sum-map g (points side)
