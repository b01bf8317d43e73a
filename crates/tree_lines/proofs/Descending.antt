-- From a leaf's path to that of the next leaf: back to the parent of the node after it, and down from there.
use Rattle.tree_lines.proofs.Common.{◌≡◌, ℕ, zero, suc, ◌+◌, ◌-◌, ◌<◌, ◌≤◌, List, [], ◌∷◌, ◌++◌, length, take, slice_get, Option, Some, None, inl, inr, refl, sym, ap, ◌∙◌, arith, length-append, rules, step, range_with_len, take-append_seam, cases_lt, common_steps, slice_get_within, parent_at, Games, CursorState, lines_before, first_after, Continues, numbers_before, path_before, paths, IsPathTo, IsNextLeaf, IsCutBack, IsAfterLeaf, slice_get-right, Rises, rises-count, rises-pair}
use Rattle.tree_lines.proofs.Lists.{get_left}
use Rattle.tree_lines.proofs.Visits.{none_above, way_rises, GoesOn, goes_on_there, after_way}
use Rattle.tree_lines.proofs.CursorStates.{before_none, next_line, given_line, before}
use Rattle.tree_lines.proofs.Seeking.{stands_after}

module _ (c : Games) (next : ℕ) (path : List ℕ) (stands : IsAfterLeaf c next path) where
  -- What the path is: that of the line before, whose nodes rise. The node from which a cursor goes on is the first one after it.
  record IsLast : Type 0 where
    first_is : first_after path ≡ next
    path_is : numbers_before c (lines_before c next) ≡ path
    rises : Rises 0 path next

  is_last : IsLast
  is_last = by next refl
    where
      by : (n : ℕ) → next ≡ n → IsLast
      by zero e =
          let none : lines_before c next ≡ 0 = rw e (before_none c) in
          record { first_is = rw (stands.start e, e) refl; path_is = rw (none, stands.start e) refl; rises = rw (stands.start e) (omega arith) }
      by (suc i) e =
          let is : next ≡ i + 1 = omega arith in
          let way = stands.path i is in
          let f = given_line c i path (omega (arith, stands.within)) (stands.leaf i is) way in
          let count : lines_before c next ≡ suc (lines_before c (i + 1) - 1) = rw is (omega (arith, f.3)) in
          record { first_is = after_way way ∙ sym is; path_is = rw (count, f.1) f.2; rises = rw is (way_rises way) }

  pub path_is : numbers_before c (lines_before c next) ≡ path
  path_is = is_last.path_is

  pub short : length path ≤ next
  short = omega (arith, rises-count 0 next path is_last.rises)

  module _ (leaf : ℕ) (parent : Option ℕ) (r : ℕ) (h : IsNextLeaf c next leaf) (parent_is : parent_at c next ≡ Some parent) (cut : IsCutBack path parent r) where
    -- the path of the next line goes on from this one
    next_way : (new : List ℕ) × IsPathTo c (Some leaf) new × GoesOn c next path new
    next_way =
        let q = next_line c next leaf h.from_there h.within h.is_leaf h.first in
        let k = lines_before c next in
        let g = goes_on_there c k (slice_get_within (paths c) k q.0 q.1.found) in
        grind (arith, common_steps, is_last, path_is)

    -- the cut is as long as the way to the parent
    same_cut : (above rest : List ℕ) → IsPathTo c parent above → path ≡ above ++ rest → r ≡ length above
    same_cut above rest way is = by parent way cut
      where
        by : (p : Option ℕ) → IsPathTo c p above → IsCutBack path p r → r ≡ length above
        by None way cut = omega (arith, cut, ap length (none_above way))
        by (Some x) (step {above = front} e up same) cut =
            let k = length front in
            let long : length above ≡ k + 1 = ap length same ∙ length-append front (x ∷ []) in
            let here : slice_get path k ≡ Some x =
            ap (λ ns. slice_get ns k) is ∙ get_left above rest k x (ap (λ ns. slice_get ns k) same ∙ slice_get-right front (x ∷ []) k 0 (omega arith)) in
            let past : k < r = elim (cases_lt k r) [ inl lt ↦ lt | inr ge ↦ absurd (cut.1 k ge (slice_get_within path k x here) here) ] in
            elim (cases_lt k (r - 1)) [
              | inl lt ↦ absurd (omega (arith, rises-pair 0 next path k (r - 1) x x is_last.rises lt here (cut.2 (omega arith))))
              | inr ge ↦ omega arith
            ]

    pub kept_within : r ≤ length path
    kept_within = let g = next_way.2 in grind (arith, common_steps, same_cut g.front.above g.front.rest, length-append)

    -- the path that is made leads to the leaf
    pub way_made : IsPathTo c (Some leaf) (take r path ++ range_with_len next (leaf + 1 - next))
    way_made = grind (arith, common_steps, next_way, same_cut, take-append_seam)

    pub stands_next : (new : List ℕ) → new ≡ take r path ++ range_with_len next (leaf + 1 - next) → IsAfterLeaf c (leaf + 1) new
    stands_next new e = stands_after c leaf new h.within h.is_leaf (rw e way_made)

    pub continues_made : (new : List ℕ) → new ≡ take r path ++ range_with_len next (leaf + 1 - next) → Continues path r new
    continues_made new e = search (rules, kept_within, is_last)

-- the next line shares a front with the line before the position
pub shares : (c : Games) (next : ℕ) (path : List ℕ) (stands : IsAfterLeaf c next path) (at : CursorState) (leaf r : ℕ) (new : List ℕ) → before c next ≡ at → Continues path r new
    → IsAfterLeaf c (leaf + 1) new → Continues (path_before at) r (path_before (before c (leaf + 1)))
shares c next path stands at leaf r new is h then = rw (← is, path_is c next path stands, path_is c (leaf + 1) new then) h
