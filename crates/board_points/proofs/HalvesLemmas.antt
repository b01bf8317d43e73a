-- Sets of points in the halves of words.
use Rattle.board_points.proofs.Common.{◌≡◌, ◌≢◌, inl, inr, ℕ, ◌+◌, ◌-◌, ◌*◌, ◌/◌, ◌%◌, ◌^◌, ◌<◌, ◌≤◌, ◌==◌, ◌&&◌, true, false, not, nat_lt, max, bit_and, count_ones, w64, List, slice_index, sym, ap, ◌∙◌, arith, length, subst, pow_pos, bit_at, bit_not, rotate_left, and_parts, and_from, cases_lt, Decides-ltb, common_steps, length-map, mod_below, ones_cat, bit_at_above, bit_at_cat_high, bit_at_cat_low, bit_at_or, bit_at-zero, same_from_bits, Point, IsOn, low_halves, high_halves, AreOthersPaired, AreAdjacent, has_bit, is_set, IsAmong, IsClosed, IsPart}
use Rattle.std.proofs.Math.ListN.{get_or-map}
use Rattle.board_points.proofs.WordLemmas.{same_bools, bit_at-mod, column_below, has_bit-less, not_in_part, same_word}
use Rattle.board_points.proofs.ColumnLemmas.{AreOthers}
use Rattle.board_points.proofs.RowLemmas.{AreRowsOf-others}
use Rattle.board_points.proofs.CountLemmas.{below_from_bits}

-- a column of a half
has_bit-low_half : (word col : ℕ) → has_bit (word % 2 ^ 32) col ≡ (nat_lt col 32 && has_bit word col)
has_bit-low_half word col =
    same_bools _ _
    (λ is.
    let low : col < 32 = column_below 32 (word % 2 ^ 32) col (mod_below word (2 ^ 32) (pow_pos 32)) is in
    and_from _ _ ((Decides-ltb col 32).1 low) (sym (ap (λ n. n == 1) (bit_at-mod word 32 col low)) ∙ is))
    (λ is.
    let both = and_parts _ _ is in
    ap (λ n. n == 1) (bit_at-mod word 32 col ((Decides-ltb col 32).0 both.0)) ∙ both.1)

has_bit-high_half : (word col : ℕ) → has_bit (word / 2 ^ 32) col ≡ has_bit word (32 + col)
has_bit-high_half word col =
    let whole : word ≡ (word / 2 ^ 32) * 2 ^ 32 + word % 2 ^ 32 = omega arith in
    sym (ap (λ n. has_bit n (32 + col)) whole
    ∙ ap (λ n. n == 1) (bit_at_cat_high (word / 2 ^ 32) 32 (word % 2 ^ 32) (32 + col) (mod_below word (2 ^ 32) (pow_pos 32)) (omega arith))
    ∙ ap (has_bit (word / 2 ^ 32)) (omega arith))

-- the point of the words that has a point of the high halves, and back
abbrev pub shifted : Point → Point
shifted p = record { col = 32 + p.col; row = p.row }

abbrev pub unshifted : Point → Point
unshifted p = record { col = p.col - 32; row = p.row }

there_and_back : (p : Point) → 32 ≤ p.col → shifted (unshifted p) ≡ p
there_and_back p from = grind (arith, common_steps)

pub back_again : (p : Point) → unshifted (shifted p) ≡ p
back_again p = grind (arith, common_steps)

pub in_low : (rows : List ℕ) (p : Point) → is_set (low_halves rows) p ≡ (nat_lt p.col 32 && is_set rows p)
in_low rows p = grind (arith, common_steps, get_or-map, has_bit-low_half)

pub in_high : (rows : List ℕ) (p : Point) → is_set (high_halves rows) p ≡ is_set rows (shifted p)
in_high rows p = grind (arith, common_steps, get_or-map, has_bit-high_half)

pub low_from : (rows : List ℕ) (p : Point) → p.col < 32 → is_set rows p ≡ true → is_set (low_halves rows) p ≡ true
low_from rows p low is = in_low rows p ∙ and_from _ _ ((Decides-ltb p.col 32).1 low) is

pub low_parts : (rows : List ℕ) (p : Point) → is_set (low_halves rows) p ≡ true → (p.col < 32) × (is_set rows p ≡ true)
low_parts rows p is = let both = and_parts _ _ (sym (in_low rows p) ∙ is) in ((Decides-ltb p.col 32).0 both.0, both.1)

pub high_from : (rows : List ℕ) (p : Point) → 32 ≤ p.col → is_set rows p ≡ true → is_set (high_halves rows) (unshifted p) ≡ true
high_from rows p from is = in_high rows (unshifted p) ∙ ap (is_set rows) (there_and_back p from) ∙ is

-- where both halves of some rows are among those of others, the rows are
pub among_by_halves : (some all : List ℕ) → IsAmong (is_set (low_halves some)) (is_set (low_halves all)) → IsAmong (is_set (high_halves some)) (is_set (high_halves all)) → IsAmong (is_set some) (is_set all)
among_by_halves some all low high =
    λ p is.
    elim (cases_lt p.col 32) [
      | inl below ↦ (low_parts all p (low p (low_from some p below is))).1
      | inr from ↦
          ap (is_set all) (sym (there_and_back p from))
          ∙ sym (in_high all (unshifted p))
          ∙ high (unshifted p) (high_from some p from is)
    ]

-- points that are adjacent in a half
adjacent_shifted : (p q : Point) → AreAdjacent p q → AreAdjacent (shifted p) (shifted q)
adjacent_shifted p q beside = grind arith

pub adjacent_unshifted : (p q : Point) → 32 ≤ p.col → 32 ≤ q.col → AreAdjacent p q → AreAdjacent (unshifted p) (unshifted q)
adjacent_unshifted p q from_p from_q beside = grind arith

-- beside a point of the one half, past an empty column, is no point of the other
pub stays_low : (p q : Point) → AreAdjacent p q → p.col < 32 → p.col ≢ 31 → q.col < 32
stays_low p q beside below apart = grind arith

pub stays_high : (p q : Point) → AreAdjacent p q → 32 ≤ p.col → q.col ≢ 31 → 32 ≤ q.col
stays_high p q beside from apart = grind arith

-- a closed set, and each of its halves
module _ (region rows : List ℕ) (closed : IsClosed (is_set region) (is_set rows)) where
  pub IsClosed-low : IsClosed (is_set (low_halves region)) (is_set (low_halves rows))
  IsClosed-low p q adjacent there is =
      let at = low_parts region p there in
      low_from rows p at.0 (closed p q adjacent at.1 (low_parts rows q is).1)

  pub IsClosed-high : IsClosed (is_set (high_halves region)) (is_set (high_halves rows))
  IsClosed-high p q adjacent there is =
      in_high rows p
      ∙ closed (shifted p) (shifted q) (adjacent_shifted p q adjacent) (sym (in_high region p) ∙ there) (sym (in_high rows q) ∙ is)

-- so are the halves of a part of a set
pub among_low : (some all : List ℕ) → IsAmong (is_set some) (is_set all) → IsAmong (is_set (low_halves some)) (is_set (low_halves all))
among_low some all part p is = let at = low_parts some p is in low_from all p at.0 (part p at.1)

pub among_high : (some all : List ℕ) → IsAmong (is_set some) (is_set all) → IsAmong (is_set (high_halves some)) (is_set (high_halves all))
among_high some all part p is = in_high all p ∙ part (shifted p) (sym (in_high some p) ∙ is)

-- a word of few columns
pub fits_half : (word side : ℕ) → side < 32 → ((col : ℕ) → has_bit word col ≡ true → col < side) → word < 2 ^ 32
fits_half word side small each =
    subst (λ n. n < 2 ^ 32) (below_from_bits word 32 (λ col is. let below = each col is in omega (arith, below, small))) (mod_below word (2 ^ 32) (pow_pos 32))

pub row_fits_half : (rows : List ℕ) (side row : ℕ) → side < 32 → ((p : Point) → is_set rows p ≡ true → IsOn side p) → slice_index rows row < 2 ^ 32
row_fits_half rows side row small on = fits_half (slice_index rows row) side small (λ col is. (on (record { col = col; row = row }) is).0)

-- halves exchanged by a rotation
max_none : (x : ℕ) → max x 0 ≡ x
max_none x = omega arith

none_max : (x : ℕ) → max 0 x ≡ x
none_max x = omega arith

rotated : (n : ℕ) → n < 2 ^ 64 → rotate_left w64 n 32 ≡ (n % 2 ^ 32) * 2 ^ 32 + n / 2 ^ 32
rotated n low =
    let few : n / 2 ^ 32 < 2 ^ 32 = omega (arith, low) in
    let cut : (n * 2 ^ 32) % 2 ^ 64 ≡ (n % 2 ^ 32) * 2 ^ 32 + 0 = omega arith in
    same_from_bits (rotate_left w64 n 32) ((n % 2 ^ 32) * 2 ^ 32 + n / 2 ^ 32)
    (λ i.
    bit_at_or ((n * 2 ^ 32) % 2 ^ 64) (n / 2 ^ 32) i
    ∙ (elim (cases_lt i 32) [
      | inl below ↦
          ap (λ b. max b (bit_at (n / 2 ^ 32) i)) (ap (λ m. bit_at m i) cut ∙ bit_at_cat_low (n % 2 ^ 32) 32 0 i below ∙ bit_at-zero i)
          ∙ none_max (bit_at (n / 2 ^ 32) i)
          ∙ sym (bit_at_cat_low (n % 2 ^ 32) 32 (n / 2 ^ 32) i below)
      | inr above ↦
          ap (λ b. max (bit_at ((n * 2 ^ 32) % 2 ^ 64) i) b) (bit_at_above (n / 2 ^ 32) 32 i few above)
          ∙ max_none (bit_at ((n * 2 ^ 32) % 2 ^ 64) i)
          ∙ ap (λ m. bit_at m i) cut
          ∙ bit_at_cat_high (n % 2 ^ 32) 32 0 i (omega arith) above
          ∙ sym (bit_at_cat_high (n % 2 ^ 32) 32 (n / 2 ^ 32) i few above)
    ]))

pub low_rotated : (n turned : ℕ) → n < 2 ^ 64 → turned ≡ rotate_left w64 n 32 → turned % 2 ^ 32 ≡ n / 2 ^ 32
low_rotated n turned low is = let halves = rotated n low in omega (arith, is, halves, low)

pub high_rotated : (n turned : ℕ) → n < 2 ^ 64 → turned ≡ rotate_left w64 n 32 → turned / 2 ^ 32 ≡ n % 2 ^ 32
high_rotated n turned low is = let halves = rotated n low in omega (arith, is, halves, low)

past_half : (word c : ℕ) → 32 ≤ c → has_bit (word % 2 ^ 32) c ≡ false
past_half word c above = ap (λ n. n == 1) (bit_at_above (word % 2 ^ 32) 32 c (mod_below word (2 ^ 32) (pow_pos 32)) above)

in_half : (word c : ℕ) → c < 32 → has_bit (word % 2 ^ 32) c ≡ has_bit word c
in_half word c below = ap (λ n. n == 1) (bit_at-mod word 32 c below)

past_word : (word c : ℕ) → word < 2 ^ 64 → 64 ≤ c → has_bit word c ≡ false
past_word word c fits above = ap (λ n. n == 1) (bit_at_above word 64 c fits above)

-- the halves of what is left of a word
module _ (all word left : ℕ) (fits : all < 2 ^ 64) (word_fits : word < 2 ^ 64) (within : (c : ℕ) → c < 64 → has_bit left c ≡ (has_bit all c && not (has_bit word c))) (off : IsPart (has_bit left) (has_bit all)) where
  pub left_low : left % 2 ^ 32 ≡ bit_and (all % 2 ^ 32) (bit_not w64 (word % 2 ^ 32))
  left_low =
      same_word (left % 2 ^ 32) (bit_and (all % 2 ^ 32) (bit_not w64 (word % 2 ^ 32)))
      (λ c.
      let less = has_bit-less (all % 2 ^ 32) (word % 2 ^ 32) c (omega arith) (omega arith) in
      elim (cases_lt c 32) [
        | inl below ↦
            in_half left c below
            ∙ within c (omega (arith, below))
            ∙ sym (less
            ∙ ap (λ b. b && not (has_bit (word % 2 ^ 32) c)) (in_half all c below)
            ∙ ap (λ b. has_bit all c && not b) (in_half word c below))
        | inr above ↦ past_half left c above ∙ sym (less ∙ ap (λ b. b && not (has_bit (word % 2 ^ 32) c)) (past_half all c above))
      ])

  pub left_high : left / 2 ^ 32 ≡ bit_and (all / 2 ^ 32) (bit_not w64 (word / 2 ^ 32))
  left_high =
      same_word (left / 2 ^ 32) (bit_and (all / 2 ^ 32) (bit_not w64 (word / 2 ^ 32)))
      (λ c.
      let less = has_bit-less (all / 2 ^ 32) (word / 2 ^ 32) c (omega (arith, fits)) (omega (arith, word_fits)) in
      let there = less ∙ ap (λ b. b && not (has_bit (word / 2 ^ 32) c)) (has_bit-high_half all c) in
      has_bit-high_half left c
      ∙ (elim (cases_lt (32 + c) 64) [
        | inl below ↦ within (32 + c) below ∙ sym (there ∙ ap (λ b. has_bit all (32 + c) && not b) (has_bit-high_half word c))
        | inr above ↦
            not_in_part (has_bit left) (has_bit all) (32 + c) off (past_word all (32 + c) fits above)
            ∙ sym (there ∙ ap (λ b. b && not (has_bit (word / 2 ^ 32) c)) (past_word all (32 + c) fits above))
      ]))

-- the set bits of a word by its halves
pub ones_by_halves : (word : ℕ) → count_ones word ≡ count_ones (word / 2 ^ 32) + count_ones (word % 2 ^ 32)
ones_by_halves word =
    let whole : word ≡ (word / 2 ^ 32) * 2 ^ 32 + word % 2 ^ 32 = omega arith in
    ap count_ones whole ∙ ones_cat 32 (word / 2 ^ 32) (word % 2 ^ 32) (mod_below word (2 ^ 32) (pow_pos 32))

-- the words of two sets, row by row
abbrev pub IsPair : List ℕ → List ℕ → ℕ → ℕ → Type 0
IsPair black white row word = (word % 2 ^ 32 ≡ slice_index black row) × (word / 2 ^ 32 ≡ slice_index white row)

abbrev pub IsPairOfOthers : ℕ → List ℕ → List ℕ → ℕ → ℕ → Type 0
IsPairOfOthers side black white row word =
    AreOthers side (slice_index white row) (word % 2 ^ 32) × AreOthers side (slice_index black row) (word / 2 ^ 32)

pub others_paired_all : (black white rows : List ℕ) → length rows ≡ length black → length rows ≡ length white → ((r : ℕ) → r < length rows → IsPairOfOthers (length black) black white r (slice_index rows r)) → AreOthersPaired black white rows
others_paired_all black white rows long_black long_white each = record {
  low = AreRowsOf-others white (low_halves rows) (length-map rows (λ w. w % 2 ^ 32) ∙ long_white)
      (λ r below.
      let within : r < length rows = omega (arith, below, long_white) in
      subst (AreOthers (length white) (slice_index white r)) (sym (get_or-map (λ w. w % 2 ^ 32) rows r 0))
      (subst (λ n. AreOthers n (slice_index white r) (slice_index rows r % 2 ^ 32)) (sym long_black ∙ long_white) (each r within).0));
  high = AreRowsOf-others black (high_halves rows) (length-map rows (λ w. w / 2 ^ 32) ∙ long_black)
      (λ r below.
      let within : r < length rows = omega (arith, below, long_black) in
      subst (AreOthers (length black) (slice_index black r)) (sym (get_or-map (λ w. w / 2 ^ 32) rows r 0)) (each r within).1);
}
