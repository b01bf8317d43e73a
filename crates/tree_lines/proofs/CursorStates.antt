-- How many lines end before a node, which line ends at it, and what a cursor that stands after it shows.
use Rattle.tree_lines.proofs.Common.{◌≡◌, ℕ, ◌+◌, ◌-◌, ◌<◌, ◌≤◌, List, [], length, slice_get, Option, Some, None, option_map, sym, ap, ◌∙◌, arith, zero, suc, get_or, nat_lt, lt-ltb, le-ltb, cases_lt, common_steps, slice_get-map, slice_get_within, get_or_from_slice_get, slice_get_past, IsLeaf, place_at, game_of, Games, node_count, CursorState, advanced, IsLine, lines_before, path_before, line_before, Line, lines, place_of, Path, paths, leaf_of, IsPathTo, HasNoLeaf, IsNextLeaf, IsAfterLeaf, rises-pair}
use Rattle.std.proofs.lemmas.List.Sums.{prefix_len_is}
use Rattle.tree_lines.proofs.Lists.{element, each_get}
use Rattle.tree_lines.proofs.Visits.{one_way, way_within, last-way, some_node, leads, leaves_in_order, covered}
use Rattle.tree_lines.proofs.Named.{game_of_root, line_at, length-paths}
use Rattle.tree_lines.specs.declared.line.LineRef.{LineRef}

-- the line that ends at a leaf, where no leaf stands between node n and it
pub record IsNextLine (c : Games) (n i : ℕ) (path : Path) : Type 0 where
  pub found : slice_get (paths c) (lines_before c n) ≡ Some path
  pub ends : leaf_of path ≡ i
  pub one_more : lines_before c (i + 1) ≡ lines_before c n + 1
  pub up : IsPathTo c (Some i) path.numbers

module _ (c : Games) where
  -- a later line ends at a greater number
  pub leaf_rises : (j k : ℕ) (p q : Path) → j < k → slice_get (paths c) j ≡ Some p → slice_get (paths c) k ≡ Some q → leaf_of p < leaf_of q
  leaf_rises j k p q lt e f = grind (arith, common_steps, rises-pair, leaves_in_order c, slice_get-map leaf_of (paths c) j, slice_get-map leaf_of (paths c) k)

  -- k lines end before node n, if the first k do and the next doesn't
  pub before_is : (n k : ℕ) → k ≤ length (paths c) → ((j : ℕ) (p : Path) → slice_get (paths c) j ≡ Some p → j < k → leaf_of p < n)
      → ((p : Path) → slice_get (paths c) k ≡ Some p → n ≤ leaf_of p) → lines_before c n ≡ k
  before_is n k le before next =
      let none : Path = record { game_number = 0; numbers = [] } in
      prefix_len_is (λ path. nat_lt (leaf_of path) n) (paths c) k none le
      (λ j lt. grind (arith, common_steps, element (paths c) j (omega arith), get_or_from_slice_get, lt-ltb))
      (λ lt. let p = element (paths c) k lt in
      ap (λ path. nat_lt (leaf_of path) n) (get_or_from_slice_get (paths c) k p.0 none p.1) ∙ le-ltb (leaf_of p.0) n (next p.0 p.1))

  pub before_none : lines_before c 0 ≡ 0
  before_none = before_is 0 0 (omega arith) (λ j p e lt. absurd (omega arith)) (λ p e. omega arith)

  path_of : (o : Option Path) (i : ℕ) → option_map leaf_of o ≡ Some i → (path : Path) × (o ≡ Some path) × (leaf_of path ≡ i)
  path_of o i e = grind (arith, common_steps)

  pub next_line : (n i : ℕ) → n ≤ i → i < node_count c → IsLeaf c i → ((j : ℕ) → n ≤ j → j < i → IsLeaf c j → ⊥) → (path : Path) × IsNextLine c n i path
  next_line n i le lt leaf none =
      let at = covered c i lt leaf in
      let k = at.0 in
      let f = path_of (slice_get (paths c) k) i (sym (slice_get-map leaf_of (paths c) k) ∙ at.1) in
      let within : k < length (paths c) = slice_get_within (paths c) k f.0 f.1 in
      let count : lines_before c n ≡ k = before_is n k (omega arith)
      (λ j p e lt. grind (arith, common_steps, cases_lt (leaf_of p) n, leaf_rises j k p f.0 lt e f.1, leads c j p e))
      (λ p e. let same : p ≡ f.0 = cc in rw same (omega (arith, f.2))) in
      let more : lines_before c (i + 1) ≡ k + 1 = before_is (i + 1) (k + 1) (omega arith)
      (λ j p e lt. grind (arith, common_steps, cases_lt, leaf_rises))
      (λ q e. omega (arith, leaf_rises k (k + 1) f.0 q (omega arith) f.1 e, f.2)) in
      (f.0, record { found = rw count f.1; ends = f.2; one_more = omega arith; up = rw f.2 at (leads c k f.0 f.1).up })

  -- no line is left where no leaf is
  pub no_line_left : (n : ℕ) → ((j : ℕ) → n ≤ j → j < node_count c → IsLeaf c j → ⊥) → lines_before c n ≡ length (paths c)
  no_line_left n none = before_is n (length (paths c)) (omega arith) (λ j p e lt. grind (arith, common_steps, cases_lt (leaf_of p) n, leads c j p e, way_within)) (λ p e. absurd (omega (arith, slice_get_within (paths c) (length (paths c)) p e)))

  -- the line that ends at a leaf, by the way to it
  pub given_line : (i : ℕ) (numbers : List ℕ) → i < node_count c → IsLeaf c i → IsPathTo c (Some i) numbers
      → (path : Path) × (slice_get (paths c) (lines_before c (i + 1) - 1) ≡ Some path) × (path.numbers ≡ numbers) × (0 < lines_before c (i + 1))
  given_line i numbers lt leaf up =
      let f = next_line i i (omega arith) lt leaf (λ j le below l. omega arith) in
      grind (arith, common_steps, one_way)

-- what it shows
pub record IsShown (c : Games) (next : ℕ) (numbers : List ℕ) : Type 0 where
  pub some_node : 0 < length numbers
  pub after : 0 < next
  pub path_is : (d : ℕ) → slice_get (paths c) (lines_before c next - 1) ≡ Some (record { game_number = game_of c (get_or numbers 0 d); numbers = numbers })
  pub place_is : (place : ℕ) → place_at c (next - 1) ≡ Some place → option_map place_of (slice_get (lines c) (lines_before c next - 1)) ≡ Some place

same_path : (p : Path) (g : ℕ) (ns : List ℕ) → p.game_number ≡ g → p.numbers ≡ ns → p ≡ record { game_number = g; numbers = ns }
same_path p g ns e f = ap (λ n. record { game_number = n; numbers = p.numbers }) e ∙ ap (λ l. record { game_number = g; numbers = l }) f

shown_at : (c : Games) (i : ℕ) (numbers : List ℕ) → i < node_count c → IsLeaf c i → IsPathTo c (Some i) numbers → IsShown c (suc i) numbers
shown_at c i numbers lt leaf way = grind (arith, common_steps, given_line, some_node, each_get, game_of_root, same_path, line_at, last-way)

pub shows : (c : Games) (next : ℕ) (numbers : List ℕ) → IsAfterLeaf c next numbers → 0 < lines_before c next → IsShown c next numbers
shows c zero numbers h lt = absurd (omega (arith, before_none c))
shows c (suc i) numbers h lt =
    let is : suc i ≡ i + 1 = omega arith in
    shown_at c i numbers (omega (arith, h.within)) (h.leaf i is) (h.path i is)

-- the position of a cursor that goes on from the node `next`
abbrev pub before : Games → ℕ → CursorState
before c next = record { games = c; index = lines_before c next }

pub starts : (c : Games) → before c 0 ≡ record { games = c; index = 0 }
starts c = ap (λ n. record { games = c; index = n }) (before_none c)

module _ (c : Games) (next : ℕ) (at : CursorState) (is : before c next ≡ at) where
  pub shows_line : (numbers : List ℕ) → IsAfterLeaf c next numbers → 0 < at.index → IsShown c next numbers
  shows_line numbers h lt = shows c next numbers h (rw (← is) at lt)

  -- where no leaf is left, no line is
  pub none_is_left : HasNoLeaf c next (node_count c) → slice_get (lines at.games) at.index ≡ None
  none_is_left none = rw (← is) (slice_get_past (lines c) (lines_before c next) (omega (arith, no_line_left c next none, length-paths c)))

  -- after the next leaf one line more has been given
  pub advances : (i : ℕ) → IsNextLeaf c next i → before c (i + 1) ≡ advanced at
  advances i h = rw (← is) (ap (λ n. record { games = c; index = n }) (next_line c next i h.from_there h.within h.is_leaf h.first).1.one_more)

pub line_is : (at : CursorState) (line : LineRef) → 0 < at.index → 0 < length line.path.now → line.path.now ≡ path_before at
    → option_map (λ (l : Line). l.game_number) (line_before at) ≡ Some line.game → option_map place_of (line_before at) ≡ Some line.place → IsLine at.games (at.index - 1) line
line_is at line lt some path game place = grind (arith, common_steps, line_at, same_path)
