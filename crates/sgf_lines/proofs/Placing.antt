-- The stones of a colouring in which every stone reaches empty, played one by one, black ones before white ones, make that
-- colouring: nothing is captured on the way, since a stone reaches empty sooner where fewer stones stand.
use Rattle.sgf_lines.proofs.Common.{range_with_len, cases_Bool, cases_eq, cases_lt, common_steps, get_or-replicate, length-replicate, slice_get_within, Point, IsOn, index_of, point_at, points, vertex_of, Cell, Colour, clear, play, HasUnreaching, has_unreaching, stone_of, same_cell, Grid, cell_at, with_cell, empty_grid, Leads, Reaches, reaches, Stone, shows, colour_letter, vertex_text, play_command, stone_commands, colouring_commands, Each, ◌≡◌, ◌≢◌, ◌↔◌, ℕ, zero, suc, ◌+◌, ◌*◌, ◌<◌, ◌≤◌, List, [], ◌∷◌, ◌++◌, length, map, filter, Some, Bool, true, false, IsTrue, slice_get, codes, refl, sym, ap, ◌∙◌, arith, subst, inl, inr, ◌⊎◌, cond, length-set, flat_map}
use Rattle.board_stones.specs.declared.stones.Cell.TheVariants.{Black, White, Empty}
use Rattle.board_stones.specs.declared.stones.Colour.TheVariants.{Black as BlackPlayer, White as WhitePlayer}
use Rattle.board_stones.proofs.GridLemmas.{Decides-same_cell}
use Rattle.sgf_lines.proofs.ScriptRows.{IsWithin, Carries, takes_row, takes_nothing, takes_both, solid_within, within_both, vertex_solid, point_names, play_reads}

-- what the board's laws say
pub record BoardLaws : Type 0 where
  pub listed : (side : ℕ) → length (points side) ≡ side * side
  pub once : (side index : ℕ) (point : Point) → ((slice_get (points side) index ≡ Some point) ↔ (IsOn side point × (index ≡ index_of side point)))
  pub same : (grid other : Grid) → grid.side ≡ other.side → length grid.cells ≡ grid.side * grid.side → length other.cells ≡ other.side * other.side
      → ((point : Point) → IsOn grid.side point → cell_at grid point ≡ cell_at other point) → grid ≡ other
  pub reaching : (g : Grid) (k : Cell) (p : Point) → IsOn g.side p → (IsTrue (reaches g k p) ↔ Reaches g k p)
  pub there : (g : Grid) (p : Point) (c : Cell) → IsOn g.side p → length g.cells ≡ g.side * g.side → cell_at (with_cell g p c) p ≡ c
  pub elsewhere : (g : Grid) (p q : Point) (c : Cell) → IsOn g.side p → IsOn g.side q → q ≢ p → cell_at (with_cell g p c) q ≡ cell_at g q
  pub clear_side : (g : Grid) (k : Colour) → (clear g k).side ≡ g.side
  pub clear_all : (g : Grid) (k : Colour) → length (clear g k).cells ≡ g.side * g.side
  pub kept : (g : Grid) (k : Colour) (p : Point) → IsOn g.side p → Reaches g Empty p → cell_at (clear g k) p ≡ cell_at g p
  pub unreaching : (g : Grid) → (IsTrue (has_unreaching g) ↔ HasUnreaching g)

pub is_same : (c d : Cell) → same_cell c d ≡ true → c ≡ d
is_same c d e = (Decides-same_cell c d).0 e

-- the row of one play
play_within : (side : ℕ) (k : Colour) (p : Point) → side ≤ 25 → IsOn side p → Each IsWithin (codes "play " ++ colour_letter k ++ codes " " ++ vertex_text (vertex_of p side))
play_within side k p small on = grind (arith, common_steps, within_both, solid_within, vertex_solid)

pub takes_play : (board : Grid) (k : Colour) (p : Point) → board.side ≤ 25 → IsOn board.side p → cell_at board p ≡ Empty
    → Carries (shows board) (play_command board.side k (Stone p)) (shows (play board k p))
takes_play board k p small on empty rest =
    let line = codes "play " ++ colour_letter k ++ codes " " ++ vertex_text (vertex_of p board.side) in
    grind (arith, common_steps, play_reads board.side k p small on, point_names board.side p small on, takes_row (shows board) line (play_within board.side k p small on) rest, play_within board.side k p small on)

module _ (laws : BoardLaws) where
  same_point : (side : ℕ) (p q : Point) → IsOn side p → IsOn side q → index_of side p ≡ index_of side q → p ≡ q
  same_point side p q on also e =
      let two = (laws.once side (index_of side p) q).1 (also, e) in
      grind (arith, common_steps)

  point_or : (side : ℕ) (p q : Point) → IsOn side p → IsOn side q → (q ≡ p) ⊎ (q ≢ p)
  point_or side p q on also = grind (arith, common_steps, cases_eq, same_point)

  -- ---- fewer stones of a settled grid

  module _ (g : Grid) (full : length g.cells ≡ g.side * g.side) (settled : has_unreaching g ≡ false) where
    -- on each point stands what stands on the whole grid, or nothing
    record IsPart (h : Grid) : Type 0 where
      side : h.side ≡ g.side
      all : length h.cells ≡ h.side * h.side
      each : (p : Point) → IsOn g.side p → (cell_at h p ≡ Empty) ⊎ (cell_at h p ≡ cell_at g p)

    on_part : (h : Grid) (p : Point) → IsPart h → IsOn g.side p → IsOn h.side p
    on_part h p part on = subst (λ n. IsOn n p) (sym part.side) on

    leads_part : (h : Grid) (own : Cell) (p : Point) (path : List Point) → IsPart h → Leads g own Empty p path → (shorter : List Point) × Leads h own Empty p shorter
    leads_part h own p [] part l = grind (arith, common_steps, on_part)
    leads_part h own p (next ∷ path) part l =
        elim (part.each p l.0) [
          | inl e ↦ ([], (on_part h p part l.0, e))
          | inr e ↦ let rest = leads_part h own next path part l.3 in (next ∷ rest.0, (on_part h p part l.0, e ∙ l.1, l.2, rest.1))
        ]

    whole_reaches : (p : Point) → IsOn g.side p → Reaches g Empty p
    whole_reaches p on =
        elim (cases_Bool (reaches g Empty p)) [
          | inl h ↦ (laws.reaching g Empty p on).0 h
          | inr never ↦ elim (cases_Bool (same_cell (cell_at g p) Empty)) [
            | inl e ↦ ([], (on, is_same (cell_at g p) Empty e))
            | inr other ↦
                let some : cell_at g p ≢ Empty = λ e. (let same = (Decides-same_cell (cell_at g p) Empty).1 e in cc) in
                let stuck : HasUnreaching g = (p, on, some, λ r. let does = (laws.reaching g Empty p on).1 r in cc) in
                let found = (laws.unreaching g).1 stuck in absurd (cc)
          ]
        ]

    part_reaches : (h : Grid) (p : Point) → IsPart h → IsOn g.side p → Reaches h Empty p
    part_reaches h p part on = grind (arith, common_steps, on_part h p part on, whole_reaches p on, leads_part)

    clear_part : (h : Grid) (k : Colour) → IsPart h → clear h k ≡ h
    clear_part h k part =
        let side = laws.clear_side h k in
        laws.same (clear h k) h side (laws.clear_all h k ∙ ap (λ n. n * n) (sym side)) part.all
        (λ p on. let here : IsOn h.side p = subst (λ n. IsOn n p) side on in
        laws.kept h k p here (part_reaches h p part (subst (λ n. IsOn n p) part.side here)))

    with_part : (h : Grid) (p : Point) → IsPart h → IsOn g.side p → IsPart (with_cell h p (cell_at g p))
    with_part h p part on = grind (arith, common_steps, on_part, length-set, point_or)

    play_part : (h : Grid) (k : Colour) (p : Point) → IsPart h → IsOn g.side p → cell_at g p ≡ stone_of k → play h k p ≡ with_cell h p (cell_at g p)
    unfolding play
    play_part h k p part on stone = grind (arith, common_steps, with_part, clear_part)

    -- ---- The order of play: the black stones in the order of the points, and then the white ones.

    rank : Cell → ℕ → ℕ
    rank Black i = i
    rank White i = g.side * g.side + i
    rank Empty i = i

    rank_of : Point → ℕ
    rank_of p = rank (cell_at g p) (index_of g.side p)

    turn_of : Colour → ℕ → ℕ
    turn_of BlackPlayer i = i
    turn_of WhitePlayer i = g.side * g.side + i

    -- the stones of a rank below n are placed, and no others
    record IsPlaced (h : Grid) (n : ℕ) : Type 0 where
      side : h.side ≡ g.side
      all : length h.cells ≡ h.side * h.side
      done : (p : Point) → IsOn g.side p → rank_of p < n → cell_at h p ≡ cell_at g p
      left : (p : Point) → IsOn g.side p → n ≤ rank_of p → cell_at h p ≡ Empty

    part_of : (h : Grid) (n : ℕ) → IsPlaced h n → IsPart h
    part_of h n placed = grind (arith, common_steps, cases_lt, rank_of)

    index_within : (p : Point) → IsOn g.side p → index_of g.side p < g.side * g.side
    index_within p on = grind (arith, common_steps, slice_get_within)

    rank_same : (k : Colour) (c : Cell) (i : ℕ) → c ≡ stone_of k → rank c i ≡ turn_of k i
    unfolding rank turn_of
    rank_same k c i e = grind (arith, common_steps, rank)

    -- a point of the rank whose turn it is has that index, and a stone of that colour or none
    rank_turn : (k : Colour) (c : Cell) (i j : ℕ) → i < g.side * g.side → j < g.side * g.side → rank c j ≡ turn_of k i → (j ≡ i) × ((c ≡ stone_of k) ⊎ (c ≡ Empty))
    unfolding rank turn_of
    rank_turn k c i j a b e = grind (arith, common_steps)

    turn_next : (k : Colour) (i : ℕ) → turn_of k (i + 1) ≡ turn_of k i + 1
    unfolding turn_of
    turn_next k i = grind (arith, common_steps)

    -- the stone of the present turn is placed
    placed_more : (h : Grid) (k : Colour) (i : ℕ) (q : Point) → i < g.side * g.side → IsOn g.side q → index_of g.side q ≡ i → cell_at g q ≡ stone_of k
        → IsPlaced h (turn_of k i) → IsPlaced (with_cell h q (cell_at g q)) (turn_of k (i + 1))
    unfolding rank_of
    placed_more h k i q small on here stone placed =
        grind (arith, common_steps, with_part h q (part_of h (turn_of k i) placed) on, part_of h (turn_of k i) placed, turn_of k i, rank_of q, rank_same k (cell_at g q) (index_of g.side q) stone, turn_of, turn_next k i, point_or, cases_eq, rank_of, rank_turn, index_within, same_point)

    -- there is no stone of that colour at the present turn
    placed_same : (h : Grid) (k : Colour) (i : ℕ) (q : Point) → i < g.side * g.side → IsOn g.side q → index_of g.side q ≡ i → (cell_at g q ≢ stone_of k)
        → IsPlaced h (turn_of k i) → IsPlaced h (turn_of k (i + 1))
    unfolding rank_of
    placed_same h k i q small on here none placed = grind (arith, common_steps, turn_next, cases_eq, rank_of, turn_of, rank_turn, index_within, same_point)

    all_placed : (h : Grid) → IsPlaced h (turn_of WhitePlayer (g.side * g.side)) → h ≡ g
    unfolding rank_of rank turn_of
    all_placed h placed = grind (arith, common_steps, rank, rank_of, turn_of, index_within)

    none_placed : IsPlaced (empty_grid g.side) (turn_of BlackPlayer 0)
    unfolding turn_of
    none_placed = grind (arith, common_steps, length-replicate, get_or-replicate, index_within)

    -- ---- The rows of a colour's stones.

    point_in : (m i j : ℕ) → j < m → slice_get (map (point_at g.side) (range_with_len i m)) j ≡ Some (point_at g.side (i + j))
    point_in zero i j lt = absurd (omega arith)
    point_in (suc m) i zero lt = let same : i ≡ i + 0 = omega arith in ap (λ n. Some (point_at g.side n)) same
    point_in (suc m) i (suc j) lt = let same : i + 1 + j ≡ i + suc j = omega arith in point_in m (i + 1) j (omega arith) ∙ ap (λ n. Some (point_at g.side n)) same

    point_listed : (i : ℕ) → i < g.side * g.side → slice_get (points g.side) i ≡ Some (point_at g.side i)
    unfolding points
    point_listed i lt = let same : 0 + i ≡ i = omega arith in point_in (g.side * g.side) 0 i lt ∙ ap (λ n. Some (point_at g.side n)) same

    line_of : Colour → Point → List ℕ
    line_of k p = play_command g.side k (Stone p)

    lines_of : Colour → List Point → List ℕ
    unfolding line_of
    lines_of k ps = flat_map (λ p. play_command g.side k (Stone p)) (filter (λ p. same_cell (cell_at g p) (stone_of k)) ps)

    -- what the rows of the points from one on do to a board on which the earlier stones are placed
    record IsTaken (k : Colour) (h : Grid) (text : List ℕ) : Type 0 where
      board : Grid
      placed : IsPlaced board (turn_of k (g.side * g.side))
      takes : Carries (shows h) text (shows board)

    module _ (small : g.side ≤ 25) where
      take_stone : (k : Colour) (i : ℕ) (q : Point) (h : Grid) (ps : List Point) (is_stone : Bool) → i < g.side * g.side → IsOn g.side q → index_of g.side q ≡ i
          → same_cell (cell_at g q) (stone_of k) ≡ is_stone → IsPlaced h (turn_of k i)
          → ((next : Grid) → IsPlaced next (turn_of k (i + 1)) → IsTaken k next (lines_of k ps))
          → IsTaken k h (flat_map (λ p. play_command g.side k (Stone p)) (cond is_stone (q ∷ filter (λ p. same_cell (cell_at g p) (stone_of k)) ps) (filter (λ p. same_cell (cell_at g p) (stone_of k)) ps)))
      unfolding lines_of rank_of rank
      take_stone k i q h ps true low on here stone placed goes_on =
          let is : cell_at g q ≡ stone_of k = is_same (cell_at g q) (stone_of k) stone in
          let next = with_cell h q (cell_at g q) in
          let made : play h k q ≡ next = play_part h k q (part_of h (turn_of k i) placed) on is in
          let rest = goes_on next (placed_more h k i q low on here is placed) in
          grind (arith, common_steps, turn_of, rank, rank_same, takes_play, takes_both, lines_of)
      take_stone k i q h ps false low on here none placed goes_on =
          goes_on h (placed_same h k i q low on here (λ e. let same = (Decides-same_cell (stone_of k) (stone_of k)).1 refl in let alike = ap (λ c. same_cell c (stone_of k)) e in cc) placed)

      take_stones : (k : Colour) (m i : ℕ) (h : Grid) → i + m ≡ g.side * g.side → IsPlaced h (turn_of k i)
          → IsTaken k h (lines_of k (map (point_at g.side) (range_with_len i m)))
      unfolding lines_of
      take_stones k zero i h e placed = grind (arith, common_steps, turn_of, takes_nothing)
      take_stones k (suc m) i h e placed =
          let q = point_at g.side i in
          let there : slice_get (points g.side) i ≡ Some q = point_listed i (omega arith) in
          let is = (laws.once g.side i q).0 there in
          take_stone k i q h (map (point_at g.side) (range_with_len (i + 1) m)) (same_cell (cell_at g q) (stone_of k)) (omega arith) is.0 (sym is.1) refl placed
          (λ next now. take_stones k m (i + 1) next (omega arith) now)

      pub takes_board : (before : Grid) → before.side ≡ g.side → Carries (shows before) (colouring_commands g) (shows g)
      unfolding lines_of points turn_of
      takes_board before alike =
          let count = g.side * g.side in
          let empty = empty_grid g.side in
          let black = take_stones BlackPlayer count 0 empty (omega arith) none_placed in
          let same : count ≡ count + 0 = omega arith in
          let white = take_stones WhitePlayer count 0 black.board (omega arith) (subst (λ n. IsPlaced black.board n) same black.placed) in
          let cleared : Carries (shows before) (codes "clear_board\n") (shows empty) =
          subst (λ n. Carries (shows before) (codes "clear_board\n") (shows (empty_grid n))) alike (takes_row (shows before) (codes "clear_board") (search)) in
          let half : Carries (shows before) (codes "clear_board\n" ++ stone_commands g BlackPlayer) (shows black.board) =
          takes_both (shows before) (shows empty) (shows black.board) (codes "clear_board\n") (stone_commands g BlackPlayer) cleared black.takes in
          let done : Carries (shows before) (colouring_commands g) (shows white.board) =
          takes_both (shows before) (shows black.board) (shows white.board) (codes "clear_board\n" ++ stone_commands g BlackPlayer) (stone_commands g WhitePlayer) half white.takes in
          subst (λ b. Carries (shows before) (colouring_commands g) (shows b)) (all_placed white.board white.placed) done
