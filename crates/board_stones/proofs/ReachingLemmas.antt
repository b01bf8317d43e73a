-- The function `reaches` and the paths: they agree at each point of the grid.
use Rattle.board_stones.proofs.Common.{◌≡◌, ◌⊎◌, inl, inr, ℕ, ◌*◌, ◌<◌, Bool, true, false, List, [], ◌∷◌, length, get_or, refl, sym, ap, subst, ◌∙◌, arith, Decides, Decides-and, Decides-or, Decides-at, Decides-like, common_steps, count_by-le-length, sum_by-cons, Point, Marking, is_marked, IsOn, AreAdjacent, point_at, Cell, same_cell, Grid, cell_at, Leads, Reaches, leads_on, spread, reaching_within, reaches, Decides-some_point, index_of-point_at, IsOn-point_at}
use Rattle.std.proofs.Common.{zero, suc, count_by}
use Rattle.board_points.proofs.PointLemmas.{Decides-are_adjacent}
use Rattle.board_stones.proofs.GridLemmas.{Decides-same_cell}
use Rattle.board_points.proofs.MarkingLemmas.{is_marked-marking_of, length-marking_of}

-- p reaches the colour k in at most n steps
Within : Grid → Cell → ℕ → Point → Type 0
Within g k zero p = cell_at g p ≡ k
Within g k (suc n) p =
    Within g k n p
    ⊎ ((q : Point) × IsOn g.side q × (AreAdjacent p q × (Within g k n q × ((cell_at g q ≡ cell_at g p) ⊎ (cell_at g q ≡ k)))))

Decides-reaching_within : (g : Grid) (k : Cell) (n : ℕ) (p : Point) → IsOn g.side p → Decides (is_marked (reaching_within g k n) p) (Within g k n p)
unfolding Within reaching_within spread
Decides-reaching_within g k zero p on =
    Decides-at _ _ (is_marked-marking_of g.side (λ q. same_cell (cell_at g q) k) p on) (Decides-same_cell _ _)
Decides-reaching_within g k (suc n) p on =
    Decides-at _ _ (is_marked-marking_of g.side _ p on)
    (Decides-or _ _ (Decides-reaching_within g k n p on)
    (Decides-some_point g.side (leads_on g k (reaching_within g k n) p) _
    (λ q at.
    Decides-and _ _ (Decides-are_adjacent p q)
    (Decides-and _ _ (Decides-reaching_within g k n q at)
    (Decides-or _ _ (Decides-same_cell _ _) (Decides-same_cell _ _))))))

-- a step before a path that leads to k, from a point of the path's colour
pub path_by_step : (g : Grid) (k : Cell) (p q : Point) → IsOn g.side p → AreAdjacent p q → IsOn g.side q → (cell_at g q ≡ cell_at g p) ⊎ (cell_at g q ≡ k) → Reaches g k q → Reaches g k p
path_by_step g k p q on beside at (inl same) way =
    (q ∷ way.0, (on, refl, beside, subst (λ own. Leads g own k q way.0) same way.1))
path_by_step g k p q on beside at (inr there) way = (q ∷ [], (on, refl, beside, (at, there)))

Reaches-Within : (g : Grid) (k : Cell) (n : ℕ) (p : Point) → IsOn g.side p → Within g k n p → Reaches g k p
unfolding Within
Reaches-Within g k zero p on there = ([], (on, there))
Reaches-Within g k (suc n) p on (inl before) = Reaches-Within g k n p on before
Reaches-Within g k (suc n) p on (inr step) =
    path_by_step g k p step.0 on step.2.0 step.1 step.2.1.1 (Reaches-Within g k n step.0 step.1 step.2.1.0)

pub Leads-on : (g : Grid) (own k : Cell) (p : Point) (path : List Point) → Leads g own k p path → IsOn g.side p
Leads-on g own k p [] way = way.0
Leads-on g own k p (q ∷ path) way = way.0

-- the second point of a path has the path's colour or ends it
pub Leads-next : (g : Grid) (own k : Cell) (q : Point) (path : List Point) → Leads g own k q path → (cell_at g q ≡ own) ⊎ (cell_at g q ≡ k)
Leads-next g own k q [] way = inr way.1
Leads-next g own k q (r ∷ path) way = inl way.1

pub step_kind : (g : Grid) (own k : Cell) (p q : Point) (path : List Point) → Leads g own k p (q ∷ path) → (cell_at g q ≡ cell_at g p) ⊎ (cell_at g q ≡ k)
step_kind g own k p q path way = grind (arith, common_steps, Leads-next)

Within-Leads : (g : Grid) (own k : Cell) (p : Point) (path : List Point) → Leads g own k p path → Within g k (length path) p
unfolding Within
Within-Leads g own k p [] way = way.1
Within-Leads g own k p (q ∷ path) way =
    inr (q, Leads-on g own k q path way.3, (way.2, (Within-Leads g own k q path way.3, step_kind g own k p q path way)))

-- Rounds only add marks, so within as many rounds as there are points one of them adds none, and no later one does.

-- each mark of xs is one of ys
IsWithin : List Bool → List Bool → Type 0
IsWithin xs ys = (i : ℕ) → i < length xs → get_or xs i false ≡ true → get_or ys i false ≡ true

abbrev marks_in : List Bool → ℕ
marks_in xs = count_by (λ b. b) xs

-- of two lists with one more mark each, or with none
one_longer : (x y : Bool) (xs ys : List Bool) → (x ≡ true → y ≡ true) → (xs ≡ ys) ⊎ (marks_in xs < marks_in ys) → (x ∷ xs ≡ y ∷ ys) ⊎ (marks_in (x ∷ xs) < marks_in (y ∷ ys))
one_longer x y xs ys on rest = grind (arith, common_steps, sum_by-cons)

same_or_more : (xs ys : List Bool) → length xs ≡ length ys → IsWithin xs ys → (xs ≡ ys) ⊎ (marks_in xs < marks_in ys)
unfolding IsWithin
same_or_more [] [] e h = inl refl
same_or_more [] (y ∷ ys) e h = absurd (omega arith)
same_or_more (x ∷ xs) [] e h = absurd (omega arith)
same_or_more (x ∷ xs) (y ∷ ys) e h =
    one_longer x y xs ys (h 0 (omega arith)) (same_or_more xs ys (omega arith) (λ i b. h (suc i) (omega arith)))

same_marking : (a b : Marking) → a.side ≡ b.side → a.marks ≡ b.marks → a ≡ b
same_marking a b e f = ap (λ s. record { side = s; marks = a.marks }) e ∙ ap (λ m. record { side = b.side; marks = m }) f

module _ (g : Grid) (k : Cell) where
  marks_after : ℕ → List Bool
  marks_after n = (reaching_within g k n).marks

  side_after : (n : ℕ) → (reaching_within g k n).side ≡ g.side
  unfolding reaching_within spread
  side_after n = grind (arith, common_steps)

  length-marks_after : (n : ℕ) → length (marks_after n) ≡ g.side * g.side
  unfolding marks_after reaching_within spread
  length-marks_after n = grind (arith, common_steps, length-marking_of)

  at_index : (n i : ℕ) → i < g.side * g.side → is_marked (reaching_within g k n) (point_at g.side i) ≡ get_or (marks_after n) i false
  unfolding marks_after
  at_index n i h = grind (arith, common_steps, index_of-point_at, marks_after, side_after)

  -- a mark stays, at each index
  round_adds : (n : ℕ) → IsWithin (marks_after n) (marks_after (suc n))
  unfolding IsWithin Within
  round_adds n i b h =
      let below : i < g.side * g.side = rw (← length-marks_after n) b in
      let on = IsOn-point_at g.side i below in
      let p = point_at g.side i in
      sym (at_index (suc n) i below)
      ∙ (Decides-reaching_within g k (suc n) p on).1
      (inl ((Decides-reaching_within g k n p on).0 (at_index n i below ∙ h)))

  -- a round that adds nothing, or more marks than rounds
  Settles : ℕ → Type 0
  Settles n = (reaching_within g k (suc n) ≡ reaching_within g k n) ⊎ (n < marks_in (marks_after (suc n)))

  compared : (n : ℕ) → (marks_after n ≡ marks_after (suc n)) ⊎ (marks_in (marks_after n) < marks_in (marks_after (suc n)))
  compared n = same_or_more (marks_after n) (marks_after (suc n)) (length-marks_after n ∙ sym (length-marks_after (suc n))) (round_adds n)

  settled_by : (n : ℕ) → marks_after n ≡ marks_after (suc n) → reaching_within g k (suc n) ≡ reaching_within g k n
  unfolding marks_after
  settled_by n e = same_marking _ _ (side_after (suc n) ∙ sym (side_after n)) (sym e)

  settles : (n : ℕ) → Settles n
  unfolding Settles reaching_within
  settles zero = elim (compared zero) [ inl same ↦ inl (settled_by zero same) | inr more ↦ inr (omega arith) ]
  settles (suc n) = grind (arith, common_steps, compared (suc n), settled_by (suc n), settles n)

  settled : reaching_within g k (suc (g.side * g.side)) ≡ reaching_within g k (g.side * g.side)
  unfolding Settles
  settled = grind (arith, common_steps, count_by-le-length, length-marks_after, marks_after, settles, suc)

  from_colour : (n : ℕ) (p : Point) → cell_at g p ≡ k → Within g k n p
  unfolding Within
  from_colour zero p there = there
  from_colour (suc n) p there = inl (from_colour n p there)

  -- one step more than the grid has points brings nothing
  no_further : (p : Point) → IsOn g.side p → Within g k (suc (g.side * g.side)) p → Within g k (g.side * g.side) p
  no_further p on w =
      let all = g.side * g.side in
      (Decides-reaching_within g k all p on).0
      (ap (λ m. is_marked m p) (sym settled) ∙ (Decides-reaching_within g k (suc all) p on).1 w)

  Within-all : (n : ℕ) (p : Point) → IsOn g.side p → Within g k n p → Within g k (g.side * g.side) p
  unfolding Within
  Within-all zero p on there = from_colour (g.side * g.side) p there
  Within-all (suc n) p on (inl before) = Within-all n p on before
  Within-all (suc n) p on (inr step) =
      no_further p on
      (inr (step.0, step.1, (step.2.0, (Within-all n step.0 step.1 step.2.1.0, step.2.1.1))))

-- the function `reaches` and the paths agree
pub Decides-reaches : (g : Grid) (k : Cell) (p : Point) → IsOn g.side p → Decides (reaches g k p) (Reaches g k p)
unfolding reaches
Decides-reaches g k p on = grind (arith, common_steps, Decides-like, Decides-reaching_within, Reaches-Within, Within-Leads, Within-all)

pub ruleset reach_rules = (Decides-reaches)
