-- Points, their indices in a list that goes row by row, and tests on the points of a grid.
use Rattle.board_points.proofs.Common.{◌≡◌, ◌≢◌, Some, subst, ℕ, ◌+◌, ◌*◌, ◌<◌, ◌⊎◌, Bool, true, List, map, take, length, get_or, refl, sym, ap, ◌∙◌, arith, inl, inr, Contains, list_any, Decides-eqb, Decides-and, Decides-or, Decides-by_or, common_steps, length-map, take_more, Contains-append_left, Contains-push, Contains-push_cases, length-map-range_with_len, get_or-map-range_with_len, mul-add-lt, mod-mul-add, div-mul-add, rows, Point, IsOn, AreAdjacent, are_adjacent, index_of, point_at, points, DifferByOne, ◌↔◌, slice_get, Decides, ext_get_or}
use Rattle.std.proofs.lemmas.List.{get_or-map}
use Rattle.std.proofs.lemmas.Option.{slice_get-get_or, get_or_from_slice_get, slice_get_within}
use Rattle.std.proofs.lemmas.List.Folds.{list_any_at}

-- the upper left corner
abbrev pub origin : Point
origin = record { col = 0; row = 0 }

pub index_below : (side : ℕ) (p : Point) → IsOn side p → index_of side p < side * side
index_below side p h = mul-add-lt p.row side p.col side h.1 h.0

-- points in one column and one row are one
pub one_point : (p q : Point) → p.col ≡ q.col → p.row ≡ q.row → p ≡ q
one_point p q e f = ap (λ c. record { col = c; row = p.row }) e ∙ ap (λ r. record { col = q.col; row = r }) f

-- the point at a point's index is that point
pub point_at-index_of : (side : ℕ) (p : Point) → IsOn side p → point_at side (index_of side p) ≡ p
point_at-index_of side p h = grind (arith, common_steps, div-mul-add, mod-mul-add, one_point)

-- two points of the grid with one index are one
pub index_of-injective : (side : ℕ) (p q : Point) → IsOn side p → IsOn side q → index_of side p ≡ index_of side q → p ≡ q
index_of-injective side p q hp hq e = sym (point_at-index_of side p hp) ∙ ap (point_at side) e ∙ point_at-index_of side q hq

pub above_zero : (side i : ℕ) → i < side * side → 0 < side
above_zero n i h = grind (arith, common_steps)

-- each index below the square of the side is that of a point of the grid
pub IsOn-point_at : (side i : ℕ) → i < side * side → IsOn side (point_at side i)
IsOn-point_at side i h = let positive = above_zero side i h in (omega arith, grind (arith, rows))

pub index_of-point_at : (side i : ℕ) → i < side * side → index_of side (point_at side i) ≡ i
index_of-point_at side i h = let positive = above_zero side i h in omega arith

pub length-points : (side : ℕ) → length (points side) ≡ side * side
unfolding points
length-points side = length-map-range_with_len (point_at side) 0 (side * side)

pub get_or-points : (side i : ℕ) → i < side * side → get_or (points side) i origin ≡ point_at side i
unfolding points
get_or-points side i h = get_or-map-range_with_len (point_at side) 0 (side * side) i i origin h (omega arith)

-- a point of the grid stands at its index in the list of the points, and nowhere else
pub slice_get-points : (side index : ℕ) (point : Point) → ((slice_get (points side) index ≡ Some point) ↔ (IsOn side point × (index ≡ index_of side point)))
slice_get-points side index point = (
  λ at.
      let below : index < side * side = rw (← length-points side) (slice_get_within (points side) index point at) in
      let same : point_at side index ≡ point = sym (get_or-points side index below) ∙ get_or_from_slice_get (points side) index point origin at in
      (subst (IsOn side) same (IsOn-point_at side index below), sym (index_of-point_at side index below) ∙ ap (index_of side) same),
  λ w.
      let below : index < side * side = rw w.1 (index_below side point w.0) in
      slice_get-get_or (points side) index origin (rw length-points below)
      ∙ ap Some (get_or-points side index below ∙ ap (point_at side) w.1 ∙ point_at-index_of side point w.0),
)

-- the points before a place of a list, and the one at it
pub Contains-take_more : (ps : List Point) (n : ℕ) (q : Point) → n < length ps → (Contains (take (n + 1) ps) q ↔ (Contains (take n ps) q ⊎ (q ≡ get_or ps n origin)))
Contains-take_more ps n q within =
    rw (take_more ps n origin within) (
      λ among. elim (Contains-push_cases _ _ _ among) [ inl before ↦ inl before | inr is ↦ inr (sym is) ],
      λ part. elim part [ inl before ↦ Contains-append_left _ _ _ before | inr is ↦ rw is (Contains-push _ _) ],
    )

-- a function of the points, in a list, read at a point's index
pub get_or-map-points : {X : Type 0} (f : Point → X) (side : ℕ) (p : Point) (d : X) → IsOn side p → get_or (map f (points side)) (index_of side p) d ≡ f p
get_or-map-points f side p d h =
    get_or-map f (points side) (index_of side p) origin d (rw length-points (index_below side p h))
    ∙ ap f (get_or-points side (index_of side p) (index_below side p h) ∙ point_at-index_of side p h)

-- a list as long as the grid is that of a function of the points which it is at each index
pub is_map-points : {X : Type 0} (f : Point → X) (side : ℕ) (xs : List X) (d : X) → length xs ≡ side * side → ((i : ℕ) → i < side * side → get_or xs i d ≡ f (point_at side i)) → xs ≡ map f (points side)
is_map-points f side xs d same each =
    ext_get_or d xs (map f (points side)) (same ∙ sym (length-map (points side) f ∙ length-points side))
    (λ i h.
    let below : i < side * side = rw (← same) h in
    let within : i < length (points side) = rw length-points below in
    each i below ∙ ap f (sym (get_or-points side i below)) ∙ sym (get_or-map f (points side) i origin d within))

-- a test of some point, where the test of each point decides a fact
pub Decides-some_point : (side : ℕ) (test : Point → Bool) (P : Point → Type 0) → ((q : Point) → IsOn side q → Decides (test q) (P q)) → Decides (list_any test (points side)) ((q : Point) × IsOn side q × P q)
Decides-some_point side test P each = (
  λ h.
      let found = (Decides-by_or test (λ q. test q ≡ true) (list_any test) (λ q. (λ e. e, λ e. e)) refl (λ _ _. refl) (points side)).0 h in
      let below : found.0 < side * side = rw (← length-points side) found.1 in
      let on = IsOn-point_at side found.0 below in
      (point_at side found.0, on, (each _ on).0 (ap test (sym (get_or-points side found.0 below)) ∙ found.2 origin)),
  λ w.
      let below = index_below side w.0 w.1 in
      list_any_at test (points side) (index_of side w.0) origin (rw length-points below)
      (ap test (get_or-points side _ below ∙ point_at-index_of side w.0 w.1) ∙ (each w.0 w.1).1 w.2),
)

pub Decides-are_adjacent : (p q : Point) → Decides (are_adjacent p q) (AreAdjacent p q)
Decides-are_adjacent p q = grind (arith, common_steps, Decides-and, Decides-eqb, Decides-or)

-- two points are one or not
pub same_or_not : (p q : Point) → (p ≡ q) ⊎ (p ≢ q)
same_or_not p q = grind (arith, common_steps, one_point)

pub DifferByOne-sym : (a b : ℕ) → DifferByOne a b → DifferByOne b a
DifferByOne-sym a b differ = grind (arith, common_steps)

pub AreAdjacent-sym : (p q : Point) → AreAdjacent p q → AreAdjacent q p
AreAdjacent-sym p q adjacent = grind (arith, common_steps, DifferByOne-sym)
