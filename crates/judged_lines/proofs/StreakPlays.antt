-- How many nodes are judged on lines that follow each other: a line adds those of its judged nodes that it doesn't share with the line before.
use Rattle.judged_lines.proofs.Common.{common_steps, length-map, slice_get_within, PlacesRise, Games, node_count, CursorState, Line, lines, Before, Unheld, Held, AreHeld, all_judged_places, judged_places, judged_nodes, ◌≡◌, ℕ, ◌+◌, ◌<◌, ◌≤◌, List, length, take, arith, ◌-◌, drop, slice_get, Some, length-append, add-one, append_assoc, take-append-drop, length-drop, length-take}
use Rattle.judged_lines.proofs.Touched.{SharesAfter, adds_fresh, judged_first, judged_shared, judged_few}
use Rattle.judged_lines.proofs.Lists.{get_dropped, get_taken}

-- at most `limit` of the lines from the index `first` on
abbrev pub page_from : Games → ℕ → ℕ → List Line
page_from c first limit = take limit (drop first (lines c))

module _ (c : Games) (rise : PlacesRise c) (first limit : ℕ) where
  stands : (k : ℕ) (line : Line) → slice_get (page_from c first limit) k ≡ Some line → slice_get (lines c) (first + k) ≡ Some line
  stands k line e = grind (arith, common_steps, slice_get_within, length-take, get_taken, get_dropped)

  -- how many nodes a line shares with the one before it among these
  abbrev pub Shares : ℕ → ℕ → Type 0
  Shares k shared = SharesAfter c first k shared

  -- a line adds its judged nodes that it doesn't share with the one before it
  pub adds_judged : (k shared : ℕ) (line : Line) → slice_get (page_from c first limit) k ≡ Some line → Shares k shared
      → length (all_judged_places (take (k + 1) (page_from c first limit))) ≡ length (all_judged_places (take k (page_from c first limit))) + (length (judged_nodes line) - shared)
  adds_judged k shared line e h =
      let page = page_from c first limit in
      let more = adds_fresh c rise judged_places judged_first judged_shared first page stands k shared line e h in
      rw add-one grind (arith, common_steps, length-append, length-drop, length-map)

  -- no more than there are nodes
  pub few_judged : (k : ℕ) → length (all_judged_places (take k (page_from c first limit))) ≤ node_count c
  few_judged k =
      let rest = drop first (lines c) in
      let page = page_from c first limit in
      grind (arith, common_steps, take-append-drop first (lines c), take-append-drop limit rest, take-append-drop k page, append_assoc (take k page) (drop k page) (drop limit rest), judged_few)

-- what a line shares with the one before it, by where the cursor stands
pub shares_by : (c : Games) (rise : PlacesRise c) (first limit k : ℕ) (before : Before) (at : CursorState) (held : ℕ) → at.games ≡ c → at.index ≡ first + k → (k ≡ 0 → before ≡ Unheld) → (0 < k → before ≡ Held)
    → AreHeld before at held → Shares c rise first limit k held
shares_by c rise first limit k before at held same index first_line later h = grind (arith, common_steps, add-one)
