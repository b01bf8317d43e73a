-- What the rows of words tell of a grid: whether a stone reaches empty, or its group has no liberty, and which stones of a colour don't reach empty.
use Rattle.board_stones.proofs.Common.{◌≡◌, Decides, Decides-like, IsStone, AreShutGroups, inl, inr, ℕ, ◌≤◌, ◌&&◌, Bool, true, false, not, List, [], ◌∷◌, length, refl, sym, ap, ◌∙◌, arith, subst, ◌<◌, slice_index, and_parts, and_from, false≢true, cases_Bool, common_steps, Point, HaveLiberty, IsFree, HasLiberty, IsLiberty, IsShutIn, IsOn, is_set, IsAmong, IsClosed, Grows, has_bit, AreRowsOf, IsDifference, Colour, has_unreaching, opponent, stone_of, same_cell, Grid, cell_at, Leads, reaches, Reaches, AllReach, is_shut, IsWithoutLiberty, Empty, AreAdjacent-sym, same_bools}
use Rattle.board_stones.specs.declared.stones.Colour.TheVariants.{Black, White}
use Rattle.board_stones.proofs.GridLemmas.{Decides-same_cell}
use Rattle.board_stones.proofs.SettledLemmas.{both_reach, AllReach-settled}
use Rattle.board_stones.proofs.ReachingLemmas.{Decides-reaches, path_by_step}
use Rattle.board_stones.proofs.GroupLemmas.{stone_of≢Empty, neither_stone}
use Rattle.board_points.proofs.GrowLemmas.{Grows-none}
use Rattle.board_points.proofs.WordLemmas.{in_the_other}

-- a stone with a liberty reaches empty
pub liberty_reaches : (g : Grid) (k : Colour) (own others : List ℕ) → length own ≡ g.side → AreRowsOf g.side (λ p. same_cell (cell_at g p) (stone_of k)) own → AreRowsOf g.side (λ p. same_cell (cell_at g p) (stone_of (opponent k))) others → (p : Point) → IsOn g.side p → HasLiberty own others p → Reaches g Empty p
liberty_reaches g k own others all is_own is_other p on (q, free, next) =
    let at = subst (λ n. IsOn n q) all free.0 in
    (q ∷ [], (on, refl, AreAdjacent-sym q p next, (at, neither_stone k (cell_at g q) (sym (is_own.on q at) ∙ free.1) (sym (is_other.on q at) ∙ free.2))))

module _ (g : Grid) (k : Colour) (own others : List ℕ) (from : Point) (all : length own ≡ g.side) (is_own : AreRowsOf g.side (λ p. same_cell (cell_at g p) (stone_of k)) own) (is_other : AreRowsOf g.side (λ p. same_cell (cell_at g p) (stone_of (opponent k))) others) where
  own_stone : (p : Point) → is_set own p ≡ true → cell_at g p ≡ stone_of k
  own_stone p is = (Decides-same_cell _ _).0 (sym (is_own.on p (is_own.off p is)) ∙ is)

  own_set : (p : Point) → IsOn g.side p → cell_at g p ≡ stone_of k → is_set own p ≡ true
  own_set p on stone = is_own.on p on ∙ (Decides-same_cell _ _).1 stone

  -- an empty point has no stone of either colour
  free : (q : Point) → IsOn g.side q → cell_at g q ≡ Empty → IsFree own others q
  free q at empty = grind (arith, common_steps, is_own.on, is_other.on)

  -- a group beside which each point has a stone has no liberty
  IsWithoutLiberty-shut : (group : List ℕ) → IsShutIn own others from group → IsWithoutLiberty g k (λ p. is_set group p)
  IsWithoutLiberty-shut group shut = record {
    stones = λ p on is. own_stone p (shut.within p is);
    shut = λ p q on at adjacent is empty. shut.shut p is (q, free q at empty, AreAdjacent-sym p q adjacent);
    whole = λ p q on at adjacent is stone_q. shut.closed q p (AreAdjacent-sym p q adjacent) (own_set q at stone_q) is;
  }

  pub AreShutGroups-shut : (group : List ℕ) → IsShutIn own others from group → AreShutGroups g k group
  AreShutGroups-shut group shut = record {
    all = shut.all ∙ all;
    on_grid = λ p is. is_own.off p (shut.within p is);
    shut = IsWithoutLiberty-shut group shut;
  }

  pub IsStone-rows : g.side ≤ 52 → length others ≡ g.side → IsOn g.side from → cell_at g from ≡ stone_of k → IsStone own others from
  IsStone-rows small all_others on stone = grind (arith, common_steps, own_set)

  -- the own stones that don't reach empty
  shut_in : Point → Bool
  shut_in p = is_set own p && not (reaches g Empty p)

  shut_in-closed : IsClosed (is_set own) shut_in
  unfolding shut_in
  shut_in-closed p q adjacent there is =
      let both = and_parts _ _ is in
      let on_p = is_own.off p there in
      let on_q = is_own.off q both.0 in
      let step = path_by_step g Empty q p on_q (AreAdjacent-sym p q adjacent) on_p (inl (own_stone p there ∙ sym (own_stone q both.0))) in
      and_from _ _ there
      (elim (cases_Bool (reaches g Empty p)) [
        | inl way ↦ absurd (false≢true (sym (ap not ((Decides-reaches g Empty q on_q).1 (step ((Decides-reaches g Empty p on_p).0 way)))) ∙ both.1))
        | inr shut ↦ ap not shut
      ])

  pub Reaches-liberty : IsOn g.side from → cell_at g from ≡ stone_of k → (q : Point) → IsLiberty own others from q → Reaches g Empty from
  unfolding shut_in
  Reaches-liberty on_from cell q is =
      let on_q = is_own.off q is.own_stone in
      let way = (Decides-reaches g Empty q on_q).1 (liberty_reaches g k own others all is_own is_other q on_q is.liberty) in
      elim (cases_Bool (reaches g Empty from)) [
        | inl reach ↦ (Decides-reaches g Empty from on_from).0 reach
        | inr shut ↦
            absurd (false≢true
            (sym (ap not way) ∙ (and_parts _ _ (is.linked shut_in shut_in-closed (and_from _ _ (own_set from on_from cell) (ap not shut)))).1))
      ]

-- the columns of a row that have a stone of a colour
pub columns_at : (g : Grid) (k d : Colour) (rows : List ℕ) (n row : ℕ) → d ≡ k → n ≡ row → row < g.side → AreRowsOf g.side (λ p. same_cell (cell_at g p) (stone_of k)) rows → ((col : ℕ) → col < g.side → has_bit (slice_index rows n) col ≡ same_cell (cell_at g (record { col = col; row = row })) (stone_of d)) × ((col : ℕ) → has_bit (slice_index rows n) col ≡ true → col < g.side)
columns_at g k d rows n row colour at below are = rw (colour, at) (
  λ col low. are.on (record { col = col; row = row }) (low, below),
  λ col there. (are.off (record { col = col; row = row }) there).0,
)

-- the rows of a colour, by another word
pub rows_of_colour : (g : Grid) (k d : Colour) (rows : List ℕ) → k ≡ d → AreRowsOf g.side (λ p. same_cell (cell_at g p) (stone_of k)) rows → AreRowsOf g.side (λ p. same_cell (cell_at g p) (stone_of d)) rows
rows_of_colour g k d rows is are = subst (λ c. AreRowsOf g.side (λ p. same_cell (cell_at g p) (stone_of c)) rows) is are

of_own : (own way : Bool) → (own && not (own && way)) ≡ (own && not way)
of_own own way = grind (arith, common_steps)

module _ (g : Grid) (k : Colour) (rows others first : List ℕ) (small : g.side ≤ 52) (all : length rows ≡ g.side) (is_own : AreRowsOf g.side (λ p. same_cell (cell_at g p) (stone_of k)) rows) (is_other : AreRowsOf g.side (λ p. same_cell (cell_at g p) (stone_of (opponent k))) others) (alive : HaveLiberty rows others first) where
  stone_there : (p : Point) → is_set rows p ≡ true → cell_at g p ≡ stone_of k
  stone_there p is = (Decides-same_cell _ _).0 (sym (is_own.on p (is_own.off p is)) ∙ is)

  first_among : IsAmong (is_set first) (is_set rows)
  first_among p is = (alive.from p is).0

  pub Grows-first : Grows (is_set rows) (is_set first) (is_set first)
  Grows-first = Grows-none rows first first_among

  module _ (reached left : List ℕ) (is_left : IsDifference rows reached left) (grows : Grows (is_set rows) (is_set first) (is_set reached)) where
    -- those of the stones that reach empty
    reaching : Point → Bool
    reaching p = is_set rows p && reaches g Empty p

    reaching_closed : IsClosed (is_set rows) reaching
    unfolding reaching
    reaching_closed p q adjacent there is =
        let both = and_parts _ _ is in
        let on = is_own.off p there in
        let at = is_own.off q both.0 in
        and_from _ _ there
        ((Decides-reaches g Empty p on).1
        (path_by_step g Empty p q on adjacent at (inl (stone_there q both.0 ∙ sym (stone_there p there))) ((Decides-reaches g Empty q at).0 both.1)))

    first_reaches : IsAmong (is_set first) reaching
    unfolding reaching
    first_reaches p is =
        let found = alive.from p is in
        let on = is_own.off p found.0 in
        and_from _ _ found.0 ((Decides-reaches g Empty p on).1 (liberty_reaches g k rows others all is_own is_other p on found.1))

    module _ (closed : IsClosed (is_set rows) (is_set reached)) where
      along : (p : Point) (path : List Point) → is_set rows p ≡ true → Leads g (stone_of k) Empty p path → is_set reached p ≡ true
      along p [] own way = absurd (stone_of≢Empty k (sym (stone_there p own) ∙ way.1))
      along p (q ∷ []) own way =
          let is_free = free g k rows others p all is_own is_other q way.3.0 way.3.1 in
          grows.kept p (alive.to p (omega (arith, (is_own.off p own).0, small)) own (q, is_free, AreAdjacent-sym p q way.2))
      along p (q ∷ r ∷ path) own way =
          closed p q way.2 own (along q (r ∷ path) (is_own.on q way.3.0 ∙ (Decides-same_cell _ _).1 way.3.1) way.3)

      reached_is : (p : Point) → IsOn g.side p → is_set reached p ≡ (same_cell (cell_at g p) (stone_of k) && reaches g Empty p)
      unfolding reaching
      reached_is p on = grind (arith, common_steps, same_bools, and_parts, and_from, Decides-reaches, along, grows.least reaching reaching_closed first_reaches)

      pub shut_left : AreRowsOf g.side (is_shut g k) left
      shut_left = grind (arith, common_steps, of_own, reached_is)

    -- where all stones are there, the set is closed
    pub IsClosed-full : ((p : Point) → is_set left p ≡ false) → IsClosed (is_set rows) (is_set reached)
    IsClosed-full none p q adjacent there is =
        let on = is_own.off p there in
        in_the_other _ _ there (sym (is_left.on p (omega (arith, on.1, all)) (omega (arith, on.0, small))) ∙ none p)

-- where no stone is shut in, all reach empty
reach_where_none_shut : (g : Grid) (k : Colour) (shut : List ℕ) → AreRowsOf g.side (is_shut g k) shut → ((p : Point) → is_set shut p ≡ false) → AllReach g k
reach_where_none_shut g k shut are none = grind (arith, common_steps, Decides-reaches, Decides-same_cell, in_the_other)

none_shut : (g : Grid) (k : Colour) (shut : List ℕ) → AreRowsOf g.side (is_shut g k) shut → AllReach g k → (p : Point) → is_set shut p ≡ false
none_shut g k shut are each p = grind (arith, common_steps, Decides-reaches, Decides-same_cell, and_parts)

-- whether all stones of a colour reach empty, by the rows of those that don't
pub Decides-AllReach : (g : Grid) (k : Colour) (shut : List ℕ) (none : Bool) → AreRowsOf g.side (is_shut g k) shut → Decides none ((p : Point) → is_set shut p ≡ false) → Decides none (AllReach g k)
Decides-AllReach g k shut none are is = Decides-like none (reach_where_none_shut g k shut are) (none_shut g k shut are) is

-- some stone doesn't reach empty where not all of both colours do
pub unreaching_is : (g : Grid) (black white : Bool) → Decides black (AllReach g Black) → Decides white (AllReach g White) → not (black && white) ≡ has_unreaching g
unreaching_is g true true for_black for_white = sym (both_reach g Black (for_black.0 refl) (for_white.0 refl))
unreaching_is g false white for_black for_white = grind (arith, common_steps, AllReach-settled g Black, cases_Bool)
unreaching_is g true false for_black for_white = grind (arith, common_steps, AllReach-settled g White, cases_Bool)
