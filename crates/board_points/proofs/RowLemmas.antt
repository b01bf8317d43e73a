-- Sets of points as rows of words that are written one by one.
use Rattle.board_points.proofs.Common.{◌≡◌, ℕ, ◌+◌, ◌^◌, ◌<◌, ◌||◌, Bool, false, not, List, length, get_or, set, slice_index, bit_and, bit_or, w64, sym, ◌∙◌, arith, ◌≤◌, get_or-set_same, get_or-set_other, bit_not, or-false, and_parts, common_steps, get_or_past, bit_at-zero, same_from_bits, Point, IsOn, is_set, AreRowsOf, IsDifference, slice_set}
use Rattle.board_points.proofs.GrowLemmas.{row_below}
use Rattle.board_points.proofs.WordLemmas.{has_bit-and, has_bit-without, bit_at-gone, has_bit-or, has_bit-zero}
use Rattle.board_points.proofs.ColumnLemmas.{AreOthers}

-- what holds of each row that is written, once one more is
pub written_more : (P : ℕ → ℕ → Type 0) (rows : List ℕ) (row word : ℕ) → row < length rows → ((r : ℕ) → r < row → P r (slice_index rows r)) → P row word → (r : ℕ) → r < row + 1 → P r (slice_index (set rows row word) r)
written_more P rows row word within before here r below = grind (arith, common_steps, get_or-set_other, get_or-set_same, slice_index)

pub AreRowsOf-others : (rows others : List ℕ) → length others ≡ length rows → ((r : ℕ) → r < length rows → AreOthers (length rows) (slice_index rows r) (slice_index others r)) → AreRowsOf (length rows) (λ p. not (is_set rows p)) others
AreRowsOf-others rows others long each = record {
  on = λ p on. (each p.row on.1).0 p.col on.0;
  off = λ p is.
      let row : p.row < length rows = rw (← long) (row_below others p is) in
      ((each p.row row).1 p.col is, row);
}

pub IsDifference-all : (rows others left : List ℕ) → length left ≡ length rows → ((r : ℕ) → get_or others r 0 < 2 ^ 64) → ((r : ℕ) → r < length rows → slice_index left r ≡ bit_and (slice_index rows r) (bit_not w64 (slice_index others r))) → IsDifference rows others left
IsDifference-all rows others left long low each = grind (arith, common_steps, and_parts, has_bit-and, has_bit-without, row_below)

-- a word with no bit set
pub row_zero : (rows : List ℕ) (row : ℕ) → ((p : Point) → is_set rows p ≡ false) → slice_index rows row ≡ 0
row_zero rows row none =
    same_from_bits (slice_index rows row) 0
    (λ col. bit_at-gone (slice_index rows row) col (none (record { col = col; row = row })) ∙ sym (bit_at-zero col))

-- the same rows by another test
pub AreRowsOf-same : (side : ℕ) (test other : Point → Bool) (rows : List ℕ) → ((p : Point) → IsOn side p → test p ≡ other p) → AreRowsOf side test rows → AreRowsOf side other rows
AreRowsOf-same side test other rows same are = record { on = λ p on. are.on p on ∙ same p on; off = are.off }

-- the rows before one have the points of others, too
pub record AddedBelow (old rows : List ℕ) (row : ℕ) (new : List ℕ) : Type 0 where
  pub added : (r : ℕ) → r < row → slice_index new r ≡ bit_or (slice_index old r) (slice_index rows r)
  pub same : (r : ℕ) → row ≤ r → slice_index new r ≡ slice_index old r

pub added_next : (old rows now : List ℕ) (row : ℕ) → row < length now → AddedBelow old rows row now → AddedBelow old rows (row + 1) (slice_set now row (bit_or (slice_index now row) (slice_index rows row)))
added_next old rows now row low is = grind (arith, common_steps, written_more, get_or-set_other, get_or-set_same)

pub added_all : (old rows new : List ℕ) → AddedBelow old rows (length rows) new → (p : Point) → is_set new p ≡ (is_set old p || is_set rows p)
added_all old rows new each p = grind (arith, common_steps, has_bit-or, get_or_past, has_bit-zero, or-false)

pub ruleset difference_by_rows = (IsDifference-all)
