-- Different points have different vertices.
use Rattle.board_points.proofs.Common.{◌≡◌, ℕ, ◌-◌, ◌<◌, ◌≤◌, map, refl, sym, ap, ◌∙◌, arith, nat_lt, slice_index, range_with_len, common_steps, get_or-range_with_len, Point, Vertex, IsOn, column_letters, vertex_of, if◌then◌else◌}
use Rattle.std.proofs.lemmas.List.{get_or-map}

-- the column of a letter
column_of : ℕ → ℕ
column_of letter = if nat_lt letter 73 then letter - 65 else letter - 66

columns_in_order : map column_of column_letters ≡ range_with_len 0 25
unfolding column_of
columns_in_order = refl

column_of-letter : (col : ℕ) → col < 25 → column_of (slice_index column_letters col) ≡ col
column_of-letter col below = grind (arith, common_steps, column_of, columns_in_order, get_or-map, get_or-range_with_len)

pub vertex_of_injective : (side : ℕ) (p q : Point) → side ≤ 25 → IsOn side p → IsOn side q → vertex_of p side ≡ vertex_of q side → p ≡ q
unfolding vertex_of
vertex_of_injective side p q letters hp hq same =
    let row : side - p.row ≡ side - q.row = ap (λ (v : Vertex). v.row) same in
    let rows : p.row ≡ q.row = omega arith in
    let cols : p.col ≡ q.col =
    sym (column_of-letter p.col (omega arith)) ∙ ap column_of (ap (λ (v : Vertex). v.letter) same) ∙ column_of-letter q.col (omega arith) in
    ap (λ a. record { col = a; row = p.row }) cols ∙ ap (λ b. record { col = q.col; row = b }) rows
