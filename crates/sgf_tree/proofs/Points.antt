-- Values such as `[pd]`, one after the other: what was read before them goes on after them.
use Rattle.sgf_tree.proofs.Common.{◌≡◌, ℕ, zero, suc, ◌+◌, ◌*◌, ◌<◌, ◌≤◌, List, ◌++◌, slice_range, sym, subst, arith, rules, IsSpan, IsValueEnd, IsPoint, ArePoints, IsBracket, is_white_space, bracket-here}
use Rattle.sgf_tree.proofs.ValuesRead.{After, ValuesSoFar, ValuesBefore, after-none, values-as, values-step, values-more}
use Rattle.sgf_properties.proofs.Points.{value-end, first-point, later-points}

module _ (t : List ℕ) where
  -- They were read, if another value begins after them.
  pub points-read : (Wrote : List ℕ → Type 0) (from bracket at end : ℕ) → from ≤ at → ValuesSoFar t (After Wrote t from at) bracket at → ArePoints t at end → IsBracket t end
      → ValuesSoFar t (After Wrote t from end) bracket end
  points-read Wrote from bracket at end low before points stands = go points.count at low before points.ends points.each
    where
      next : (n at : ℕ) → at + 4 * n ≡ end → ((i : ℕ) → i < n → IsPoint t (at + 4 * i)) → IsBracket t at
      next zero at ends each = let same : end ≡ at = omega arith in subst (IsBracket t) same stands
      next (suc n) at ends each = let point = first-point t at end n ends each in record { within = omega (arith, point.value.within); bracket = point.begins }

      go : (n at : ℕ) → from ≤ at → ValuesSoFar t (After Wrote t from at) bracket at → at + 4 * n ≡ end → ((i : ℕ) → i < n → IsPoint t (at + 4 * i)) → ValuesSoFar t (After Wrote t from end) bracket end
      go zero at low so_far ends each = let same : at ≡ end = omega arith in subst (λ i. ValuesSoFar t (After Wrote t from i) bracket i) same so_far
      go (suc n) at low so_far ends each =
          let more = later-points t at n each in
          let ends' : at + 4 + 4 * n ≡ end = omega arith in
          let there = next n (at + 4) ends' more in
          let close : at + 3 + 1 ≡ at + 4 = omega arith in
          let read = values-step t Wrote from bracket at (at + 3) (at + 4) so_far low (next (suc n) at ends each) (value-end t at (first-point t at end n ends each))
          (subst (λ i. IsSpan is_white_space t i (at + 4)) (sym close) (bracket-here t (at + 4) there)) in
          go n (at + 4) (omega arith)
          (values-more t (After Wrote t from (at + 4)) bracket (at + 4) (subst (λ i. ValuesBefore t (After Wrote t from i) bracket (at + 4)) close read) there.within there.bracket)
          ends' more

  -- points, and a value after them
  pub values-run : (Wrote Other : List ℕ → Type 0) (bracket from last close next : ℕ) → ValuesSoFar t Wrote bracket from → ArePoints t from last → IsBracket t last
      → IsValueEnd t (last + 1) close → IsSpan is_white_space t (close + 1) next → ((written : List ℕ) → Wrote written → Other (written ++ slice_range t from (close + 1)))
      → ValuesBefore t Other bracket next
  values-run Wrote Other bracket from last close next so_far points stands is_end white to =
      let run = points-read Wrote from bracket from last (omega arith) (values-as t Wrote (After Wrote t from from) bracket from (after-none Wrote t from) so_far) points stands in
      search (rules, points-read, values-as, after-none, values-step, values-step t Wrote from bracket last close next run (omega (arith, points.ends)) stands is_end white)
