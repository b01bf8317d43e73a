-- Markings that functions of the points make, and rows of bits as a marking.
use Rattle.board_points.proofs.Common.{◌≡◌, ◌≢◌, ℕ, ◌*◌, Bool, false, length, get_or, refl, ap, ◌∙◌, replicate, zero, suc, arith, inl, inr, ◌<◌, ◌≤◌, true, List, set, sym, ◌/◌, ◌%◌, ◌^◌, ◌==◌, map, bit_and, bit_or, w64, get_or-set_same, get_or-set_other, length-set, cases_eq, common_steps, length-map, length-replicate, bit_at-zero, shr_and_one, bit_at_set_same, bit_at_set_other, Point, is_marked, marking_of, with_mark, no_marks, IsOn, points, index_of, point_at, has_bit, is_set}
use Rattle.board_points.proofs.PointLemmas.{index_below, length-points, get_or-map-points, one_point, is_map-points, IsOn-point_at, index_of-point_at, point_at-index_of}
use Rattle.board_points.proofs.GrowLemmas.{set_there, set_elsewhere}

pub is_marked-marking_of : (side : ℕ) (test : Point → Bool) (p : Point) → IsOn side p → is_marked (marking_of side test) p ≡ test p
is_marked-marking_of side test p h = get_or-map-points test side p false h

pub length-marking_of : (side : ℕ) (test : Point → Bool) → length (marking_of side test).marks ≡ side * side
length-marking_of side test = length-map (points side) test ∙ length-points side

-- a list of one value, read with that value for what is after its end
pub get_or-replicate_default : {X : Type 0} (n i : ℕ) (d : X) → get_or (replicate n d) i d ≡ d
get_or-replicate_default zero i d = refl
get_or-replicate_default (suc n) zero d = refl
get_or-replicate_default (suc n) (suc i) d = get_or-replicate_default n i d

-- with no bit set no point is marked
pub is_set-none : (n : ℕ) (p : Point) → is_set (replicate n 0) p ≡ false
is_set-none n p = grind (arith, common_steps, bit_at-zero, get_or-replicate_default)

pub rows-none : (side n : ℕ) (rows : List ℕ) → rows ≡ replicate n 0 → marking_of side (is_set rows) ≡ no_marks side
rows-none side n rows is =
    ap (λ l. marking_of side (is_set l)) is
    ∙ ap (λ l. record { side = side; marks = l })
    (sym (is_map-points (is_set (replicate n 0)) side (replicate (side * side) false) false (length-replicate (side * side) false)
    (λ i below. get_or-replicate_default (side * side) i false ∙ sym (is_set-none n (point_at side i)))))

-- the rows with the bit of a point set
abbrev pub with_bit : List ℕ → Point → List ℕ
with_bit rows p = set rows p.row (bit_or (get_or rows p.row 0) (1 * 2 ^ p.col % 2 ^ 64))

is_set-same : (rows : List ℕ) (p : Point) → p.row < length rows → p.col < 64 → is_set (with_bit rows p) p ≡ true
is_set-same rows p within low =
    set_there rows p.row _ within p refl ∙ ap (λ b. b == 1) (bit_at_set_same w64 (get_or rows p.row 0) p.col low)

is_set-other : (rows : List ℕ) (p q : Point) → p.row < length rows → p.col < 64 → q ≢ p → is_set (with_bit rows p) q ≡ is_set rows q
is_set-other rows p q within low other =
    elim (cases_eq q.row p.row) [
      | inl row ↦
          set_there rows p.row _ within q row
          ∙ ap (λ b. b == 1) (bit_at_set_other w64 (get_or rows p.row 0) p.col low q.col (λ e. other (one_point q p e row)))
          ∙ ap (λ r. has_bit (get_or rows r 0) q.col) (sym row)
      | inr row ↦ set_elsewhere rows p.row _ q row
    ]

pub rows-with_bit : (side : ℕ) (rows : List ℕ) (p : Point) → side ≤ length rows → side ≤ 64 → IsOn side p → marking_of side (is_set (with_bit rows p)) ≡ with_mark (marking_of side (is_set rows)) p
rows-with_bit side rows p fits low on =
    let old = map (is_set rows) (points side) in
    let all : length old ≡ side * side = length-map (points side) (is_set rows) ∙ length-points side in
    let within : p.row < length rows = omega (arith, on.1, fits) in
    let column : p.col < 64 = omega (arith, on.0, low) in
    ap (λ l. record { side = side; marks = l })
    (sym (is_map-points (is_set (with_bit rows p)) side (set old (index_of side p) true) false (length-set old (index_of side p) true ∙ all)
    (λ i h.
    let q = point_at side i in
    elim (cases_eq i (index_of side p)) [
      | inl same ↦
          ap (λ j. get_or (set old (index_of side p) true) j false) same
          ∙ get_or-set_same old (index_of side p) true false (rw all (index_below side p on))
          ∙ sym (ap (λ j. is_set (with_bit rows p) (point_at side j)) same ∙ ap (is_set (with_bit rows p)) (point_at-index_of side p on)
          ∙ is_set-same rows p within column)
      | inr other ↦
          get_or-set_other old (index_of side p) i true false other
          ∙ ap (λ j. get_or old j false) (sym (index_of-point_at side i h))
          ∙ get_or-map-points (is_set rows) side q false (IsOn-point_at side i h)
          ∙ sym (is_set-other rows p q within column (λ e. other (sym (index_of-point_at side i h) ∙ ap (index_of side) e)))
    ])))

-- reading a bit
pub rows-has : (side : ℕ) (rows : List ℕ) (p : Point) (row : ℕ) → row ≡ p.row → IsOn side p → (bit_and (get_or rows row 0 / 2 ^ p.col) 1 == 1) ≡ is_marked (marking_of side (is_set rows)) p
rows-has side rows p row is on = grind (arith, common_steps, is_marked-marking_of, shr_and_one)
