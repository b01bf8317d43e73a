-- A move on a grid where every stone reaches empty: clearing the groups without a liberty beside the stone, or else its own where that
-- has none, is the whole move. What is cleared, as rows.
use Rattle.board_stones.proofs.Common.{◌≡◌, ◌⊎◌, inl, inr, ◌*◌, ◌≤◌, ◌||◌, true, false, ℕ, List, [], length, take, Contains, ◌↔◌, refl, sym, ap, subst, ◌∙◌, arith, ◌≢◌, Bool, ◌∷◌, IsTrue, rules, length-set, take_all, cases_Bool, or_cases, or_parts, or_left, or_right, false≢true, common_steps, get_or_past, Point, AddsIfShut, IsOn, index_of, AreAdjacent, is_set, IsAmong, AreRowsOf, Cell, Colour, play, has_unreaching, clear, stone_of, same_cell, opponent, Grid, cell_at, with_cell, IsWithout, Clears, Leads, Reaches, AddsShut, AreShutGroups, IsClearedOrReaches, AllLive, IsWithoutLiberty, AllReach, ReachBeside, AreClearedOrReachBeside, Empty, same_or_not, AreAdjacent-sym, has_bit-zero}
use Rattle.board_stones.proofs.GridLemmas.{cell_at-with_cell, cell_at-with_cell_elsewhere}
use Rattle.board_stones.proofs.ReachingLemmas.{Leads-on, Leads-next, path_by_step}
use Rattle.board_stones.proofs.RuleLemmas.{side-clear, length-clear, cell_at-clear, emptied, kept, others_kept}
use Rattle.board_stones.proofs.GroupLemmas.{coloured_or_not, stone_of≢Empty, one_colouring}
use Rattle.board_stones.proofs.LibertyLemmas.{Reaches-liberty, AreShutGroups-shut}
use Rattle.board_stones.proofs.SettledLemmas.{reaches_or_not, clear-AllReach, AllReach-settled}

opponent_differs : (k : Colour) → stone_of k ≢ stone_of (opponent k)
opponent_differs k = grind (arith, common_steps)

-- with no point there is no group
pub IsWithoutLiberty-none : (g : Grid) (k : Colour) (test : Point → Bool) → ((p : Point) → test p ≡ false) → IsWithoutLiberty g k test
IsWithoutLiberty-none g k test none = record { stones = λ p _ is. absurd (false≢true (sym (none p) ∙ is)); shut = λ p _ _ _ _ is. absurd (false≢true (sym (none p) ∙ is)); whole = λ p _ _ _ _ is. absurd (false≢true (sym (none p) ∙ is)) }

-- no path leads from a group without a liberty to an empty point
group_shut : (g : Grid) (k : Colour) (test : Point → Bool) → IsWithoutLiberty g k test → (path : List Point) (p : Point) → IsOn g.side p → test p ≡ true → Leads g (stone_of k) Empty p path → ⊥
group_shut g k test group [] p on there way = stone_of≢Empty k (sym (group.stones p on there) ∙ way.1)
group_shut g k test group (q ∷ path) p on there way =
    let rest = λ (at : IsOn g.side q) (is : test q ≡ true). group_shut g k test group path q at is way.3 in
    grind (arith, common_steps, Leads-on, Leads-next, group)

-- After a point p of g was coloured and some points were emptied, which gives h: each stone of a colour is in one of some groups
-- without a liberty or reaches empty, if that holds of the stones beside p and of the one on p.
module _ (g : Grid) (cells : List Cell) (p : Point) (k : Colour) (gone : Point → Bool) (group : IsWithoutLiberty (record g { cells = cells }) k gone) (fewer : (r : Point) → IsOn g.side r → r ≢ p → (cell_at (record g { cells = cells }) r ≡ Empty) ⊎ (cell_at (record g { cells = cells }) r ≡ cell_at g r)) (beside : (q : Point) → IsOn g.side q → AreAdjacent p q → cell_at (record g { cells = cells }) q ≡ stone_of k → (gone q ≡ true) ⊎ Reaches (record g { cells = cells }) Empty q) (there : cell_at (record g { cells = cells }) p ≡ stone_of k → (gone p ≡ true) ⊎ Reaches (record g { cells = cells }) Empty p) (reach : AllReach g k) where
  h : Grid
  h = record g { cells = cells }

  step_to_empty : (q r : Point) → IsOn g.side q → AreAdjacent q r → IsOn g.side r → cell_at h r ≡ Empty → Reaches h Empty q
  unfolding h
  step_to_empty q r on next at free = (r ∷ [], (on, refl, next, (at, free)))

  at_point : (q : Point) → q ≡ p → cell_at h q ≡ stone_of k → (gone q ≡ true) ⊎ Reaches h Empty q
  unfolding h
  at_point q same own = subst (λ r. (gone r ≡ true) ⊎ Reaches h Empty r) (sym same) (there (subst (λ r. cell_at h r ≡ stone_of k) same own))

  follow : (path : List Point) (q : Point) → Leads g (stone_of k) Empty q path → cell_at h q ≡ stone_of k → (gone q ≡ true) ⊎ Reaches h Empty q
  unfolding h
  follow [] q way own =
      elim (same_or_not q p) [
        | inl same ↦ at_point q same own
        | inr other ↦
            elim (fewer q way.0 other) [
              | inl free ↦ absurd (stone_of≢Empty k (sym own ∙ free))
              | inr same ↦ absurd (stone_of≢Empty k (sym own ∙ same ∙ way.1))
            ]
      ]
  follow (r ∷ path) q way own =
      let at : IsOn g.side r = Leads-on g (stone_of k) Empty r path way.3 in
      elim (same_or_not r p) [
        | inl same ↦ beside q way.0 (AreAdjacent-sym q p (subst (λ s. AreAdjacent q s) same way.2)) own
        | inr other ↦
            elim (fewer r at other) [
              | inl free ↦ inr (step_to_empty q r way.0 way.2 at free)
              | inr kept_r ↦
                  elim (Leads-next g (stone_of k) Empty r path way.3) [
                    | inr free ↦ inr (step_to_empty q r way.0 way.2 at (kept_r ∙ free))
                    | inl stone ↦
                        elim (follow path r way.3 (kept_r ∙ stone)) [
                          | inl cleared ↦ inl (group.whole r q at way.0 (AreAdjacent-sym q r way.2) cleared own)
                          | inr on ↦ inr (path_by_step h Empty q r way.0 way.2 at (inl (kept_r ∙ stone ∙ sym own)) on)
                        ]
                  ]
            ]
      ]

  pub gone_or_reaches : (q : Point) → IsOn g.side q → cell_at (record g { cells = cells }) q ≡ stone_of k → (gone q ≡ true) ⊎ Reaches (record g { cells = cells }) Empty q
  unfolding h
  gone_or_reaches q on own = search (rules, at_point, follow, same_or_not, stone_of≢Empty)

  pub AllReach-after : ((q : Point) → gone q ≡ false) → AllReach (record g { cells = cells }) k
  unfolding h
  AllReach-after none = λ q on own. elim (gone_or_reaches q on own) [ inl gone_q ↦ absurd (false≢true (sym (none q) ∙ gone_q)) | inr way ↦ way ]

  -- so clearing the colour clears exactly these groups
  pub clear_without : length cells ≡ g.side * g.side → IsWithout (record g { cells = cells }) (clear (record g { cells = cells }) k) (λ q. IsTrue (gone q))
  unfolding h
  clear_without all = grind (arith, common_steps, cell_at-clear, coloured_or_not, emptied, gone_or_reaches, group_shut, h, kept, length-clear, others_kept, side-clear)

-- A stone is played on a grid where every stone reaches empty.
module _ (g : Grid) (p : Point) (k : Colour) (on : IsOn g.side p) (all : length g.cells ≡ g.side * g.side) (settled : has_unreaching g ≡ false) (rows : List ℕ) where
  abbrev placed : Grid
  placed = with_cell g p (stone_of k)

  long : length placed.cells ≡ g.side * g.side
  long = length-set g.cells (index_of g.side p) (stone_of k) ∙ all

  stone_there : cell_at placed p ≡ stone_of k
  stone_there = cell_at-with_cell g p (stone_of k) on all

  others_kept_there : (r : Point) → IsOn g.side r → r ≢ p → cell_at placed r ≡ cell_at g r
  others_kept_there r at other = cell_at-with_cell_elsewhere g p r (stone_of k) on at other

  not_opponent : cell_at placed p ≡ stone_of (opponent k) → ⊥
  not_opponent e = opponent_differs k (sym stone_there ∙ e)

  -- the opponent's stones reach empty if those beside the stone do
  opponent_reaches : ReachBeside placed (opponent k) p → AllReach placed (opponent k)
  opponent_reaches around =
      AllReach-after g placed.cells p (opponent k) (λ _. false) (IsWithoutLiberty-none placed (opponent k) (λ _. false) (λ _. refl)) (λ r at other. inr (others_kept_there r at other))
      (λ q at next stone. inr (around q at next stone)) (λ e. absurd (not_opponent e)) (AllReach-settled g (opponent k) settled) (λ _. refl)

  -- where a group of the opponent is cleared, one beside the stone is, and so the stone reaches empty
  reaches_cleared : (left : Grid) → AreShutGroups placed (opponent k) rows → AreClearedOrReachBeside placed (opponent k) p rows → IsWithout placed left (λ q. IsTrue (is_set rows q)) → left.side ≡ g.side → ¬ ((q : Point) → is_set rows q ≡ false) → Reaches left Empty p
  reaches_cleared left are beside is side some =
      elim (reaches_or_not left Empty p (subst (λ n. IsOn n p) (sym side) on)) [
        | inl way ↦ way
        | inr shut ↦
            let others = opponent_reaches
            (λ q at next stone.
            elim (beside q at next stone) [
              | inl cleared ↦ absurd (shut (q ∷ [], (subst (λ n. IsOn n p) (sym side) on, refl, next, (subst (λ n. IsOn n q) (sym side) at, is.emptied q at cleared))))
              | inr way ↦ way
            ]) in
            absurd (some
            (λ q.
            elim (cases_Bool (is_set rows q)) [
              | inl cleared ↦
                  let at = are.on_grid q cleared in
                  let stone = are.shut.stones q at cleared in
                  let way = others q at stone in
                  absurd (group_shut placed (opponent k) (is_set rows) are.shut way.0 q at cleared (subst (λ c. Leads placed c Empty q way.0) stone way.1))
              | inr out ↦ out
            ]))
      ]

  -- the opponent's groups beside the stone are cleared, if there are any
  pub clears_beside : AreShutGroups (with_cell g p (stone_of k)) (opponent k) rows → AreClearedOrReachBeside (with_cell g p (stone_of k)) (opponent k) p rows → ¬ ((q : Point) → is_set rows q ≡ false) → Clears g k p rows
  unfolding clear play
  clears_beside are beside some =
      let left = clear placed (opponent k) in
      let is = clear_without g placed.cells p (opponent k) (is_set rows) are.shut (λ r at other. inr (others_kept_there r at other)) beside (λ e. absurd (not_opponent e)) (AllReach-settled g (opponent k) settled) long in
      let stays : cell_at left p ≡ stone_of k = is.kept p on (λ cleared. not_opponent (are.shut.stones p on cleared)) ∙ stone_there in
      let way = reaches_cleared left are beside is refl some in
      let reach : AllReach left k =
      AllReach-after g left.cells p k (λ _. false) (IsWithoutLiberty-none left k (λ _. false) (λ _. refl))
      (λ r at other.
      elim (cases_Bool (is_set rows r)) [
        | inl cleared ↦ inl (is.emptied r at cleared)
        | inr none ↦ inr (is.kept r at (λ cleared. false≢true (sym none ∙ cleared)) ∙ others_kept_there r at other)
      ])
      (λ q at next stone. inr (path_by_step left Empty q p at (AreAdjacent-sym p q next) on (inl (stays ∙ sym stone)) way))
      (λ _. inr way) (AllReach-settled g k settled) (λ _. refl) in
      record {
        few = omega (arith, are.all);
        on_grid = are.on_grid;
        played = subst (λ x. IsWithout placed x (λ q. IsTrue (is_set rows q))) (sym (clear-AllReach left k (length-clear placed (opponent k)) reach)) is;
      }

  -- and else the stone's own group, if it has no liberty
  pub clears_own : length rows ≤ g.side → ((q : Point) → is_set rows q ≡ true → IsOn g.side q) → IsWithoutLiberty (with_cell g p (stone_of k)) k (is_set rows) → ReachBeside (with_cell g p (stone_of k)) (opponent k) p → IsClearedOrReaches (with_cell g p (stone_of k)) k rows p → Clears g k p rows
  unfolding clear play
  clears_own few on_grid shut around there =
      let others = opponent_reaches around in
      let is = clear_without g placed.cells p k (is_set rows) shut (λ r at other. inr (others_kept_there r at other))
      (λ q at next stone.
      elim (there stone_there) [
        | inl cleared ↦ inl (shut.whole p q on at next cleared stone)
        | inr way ↦ inr (path_by_step placed Empty q p at (AreAdjacent-sym p q next) on (inl (stone_there ∙ sym stone)) way)
      ])
      there (AllReach-settled g k settled) long in
      record {
        few = few;
        on_grid = on_grid;
        played = subst (λ x. IsWithout placed (clear x k) (λ q. IsTrue (is_set rows q))) (sym (clear-AllReach placed (opponent k) long others)) is;
      }

-- no group
pub AreShutGroups-none : (g : Grid) (k : Colour) (rows : List ℕ) → length rows ≡ g.side → ((p : Point) → is_set rows p ≡ false) → AreShutGroups g k rows
AreShutGroups-none g k rows all none = record { all = all; on_grid = λ p is. absurd (false≢true (sym (none p) ∙ is)); shut = IsWithoutLiberty-none g k (is_set rows) none }

-- some groups, and others
pub AreShutGroups-both : (g : Grid) (k : Colour) (a b c : List ℕ) → AreShutGroups g k a → AreShutGroups g k b → length c ≡ length a → ((p : Point) → is_set c p ≡ (is_set a p || is_set b p)) → AreShutGroups g k c
AreShutGroups-both g k a b c one two long both = grind (arith, common_steps, or_cases, or_left, or_right)

-- a stone that is in some rows is in others that have these
pub cleared_still : (g : Grid) (k : Colour) (a b : List ℕ) (p : Point) → IsAmong (is_set a) (is_set b) → IsClearedOrReaches g k a p → IsClearedOrReaches g k b p
cleared_still g k a b p among each = λ stone. elim (each stone) [ inl cleared ↦ inl (among p cleared) | inr way ↦ inr way ]

-- the point of a stone emptied again
pub cleared_away : (g : Grid) (p : Point) (stone : Cell) → IsOn g.side p → length g.cells ≡ g.side * g.side → cell_at g p ≡ Empty → with_cell (with_cell g p stone) p Empty ≡ g
cleared_away g p stone on all free = grind (arith, common_steps, cell_at-with_cell, cell_at-with_cell_elsewhere, h, length-set, long, one_colouring, same_or_not)

-- one grid without the points of a set is the other grid without them
pub same_without : (g h i : Grid) (rows : List ℕ) → length g.cells ≡ g.side * g.side → IsWithout g h (λ p. is_set rows p ≡ true) → IsWithout g i (λ p. is_set rows p ≡ true) → h ≡ i
same_without g h i rows all one two = grind (arith, common_steps, one_colouring)

-- with no point to be emptied a grid stays
without-none : (g : Grid) (rows : List ℕ) → length rows ≡ 0 → IsWithout g g (λ p. is_set rows p ≡ true)
without-none g rows none = grind (arith, common_steps, get_or_past, has_bit-zero)

-- where all live, the stone is the whole move
pub clears_nothing : (g : Grid) (p : Point) (k : Colour) → IsOn g.side p → length g.cells ≡ g.side * g.side → has_unreaching g ≡ false → AllLive (with_cell g p (stone_of k)) k p → Clears g k p []
clears_nothing g p k on all settled live =
    clears_own g p k on all settled [] (omega arith) (λ q is. absurd (false≢true (sym (has_bit-zero q.col) ∙ is)))
    (IsWithoutLiberty-none (with_cell g p (stone_of k)) k (is_set []) (λ q. has_bit-zero q.col)) live.1 (λ stone. inr (live.0 stone))

-- a stone that clears nothing is the whole move
pub clears_nothing-alone : (g : Grid) (p : Point) (k : Colour) (rows : List ℕ) → length g.cells ≡ g.side * g.side → length rows ≡ 0 → Clears g k p rows → play g k p ≡ with_cell g p (stone_of k)
clears_nothing-alone g p k rows all none takes =
    let h = with_cell g p (stone_of k) in
    same_without h (play g k p) h rows (length-set g.cells (index_of g.side p) (stone_of k) ∙ all) takes.played (without-none h rows none)

-- a point beside another is among the first of its neighbours, if these are all of them
pub beside_cleared : (p q : Point) (neighbours : List Point) (count side : ℕ) → ((other : Point) → IsOn 52 other → (Contains neighbours other ↔ AreAdjacent p other)) → length neighbours ≤ count → side ≤ 52 → IsOn side q → AreAdjacent p q → Contains (take count neighbours) q
beside_cleared p q neighbours count side are all few on next = subst (λ l. Contains l q) (sym (take_all count neighbours all)) ((are q (omega (arith, few, on), omega (arith, few, on))).1 next)

-- a stone of a colour, and rows that have whole groups of that colour, each without a liberty
pub record IsAsked (grid : Grid) (colour : Colour) (point : Point) (rows : List ℕ) : Type 0 where
  pub on_board : IsOn grid.side point
  pub stone : cell_at grid point ≡ stone_of colour
  pub shut : AreShutGroups grid colour rows

-- The group of the stone on the point was added to the rows if it has no liberty. `added` tells whether it was.
pub record AddsGroup (grid : Grid) (colour : Colour) (point : Point) (old new : List ℕ) (added : Bool) : Type 0 where
  pub adds : AddsShut grid colour old new added
  pub here : IsClearedOrReaches grid colour new point

-- the group of a stone was added to rows if it has no liberty, by the rows of both colours
pub AddsGroup-rows : (g : Grid) (k : Colour) (own others old new : List ℕ) (p : Point) (added : Bool) → length own ≡ g.side → AreRowsOf g.side (λ q. same_cell (cell_at g q) (stone_of k)) own
    → AreRowsOf g.side (λ q. same_cell (cell_at g q) (stone_of (opponent k))) others → IsAsked g k p old → AddsIfShut own others p old new added → AddsGroup g k p old new added
AddsGroup-rows g k own others old new p added all is_own is_other asked adds =
    elim (cases_Bool added) [
      | inr lives ↦
          let w = adds.lives lives in
          record {
            adds = record {
              shut = subst (AreShutGroups g k) (sym w.0) asked.shut;
              kept = λ q is. ap (λ rows. is_set rows q) w.0 ∙ is;
              none = λ _. w.0;
              some = λ holds. absurd (false≢true (sym lives ∙ holds));
            };
            here = λ stone. inr (Reaches-liberty g k own others p all is_own is_other asked.on_board stone w.1.0 w.1.1);
          }
      | inl some ↦
          let w = adds.shut some in
          let there = w.3 p ∙ or_right _ _ w.1.start in
          let group = AreShutGroups-shut g k own others p all is_own is_other w.0 w.1 in
          record {
            adds = record {
              shut = AreShutGroups-both g k old w.0 new asked.shut group w.2 w.3;
              kept = λ q is. w.3 q ∙ or_left _ _ is;
              none = λ fails. absurd (false≢true (sym fails ∙ some));
              some = λ _. (p, there);
            };
            here = λ stone. inl there;
          }
    ]

-- Groups are added by a search if it finds some or if those before it did.
pub adds_either : (g : Grid) (k : Colour) (p : Point) (old mid new : List ℕ) (before now some : Bool) → AddsShut g k old mid before → AddsGroup g k p mid new now → some ≡ (before || now) → AddsShut g k old new some
adds_either g k p old mid new before now some earlier group is = record {
  shut = group.adds.shut;
  kept = λ q there. group.adds.kept q (earlier.kept q there);
  none = λ fails.
      let neither = or_parts before now (sym is ∙ fails) in
      group.adds.none neither.1 ∙ earlier.none neither.0;
  some = λ holds.
      elim (or_cases before now (sym is ∙ holds)) [
        | inl some ↦ (let at = earlier.some some in (at.0, group.adds.kept at.0 at.1))
        | inr some ↦ group.adds.some some
      ];
}
