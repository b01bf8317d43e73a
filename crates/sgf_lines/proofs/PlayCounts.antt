-- How many nodes a run plays for its page: a line adds those of its judged nodes that it doesn't share with the line before it.
use Rattle.sgf_lines.proofs.Common.{Appends, Appends-trans, cases_Bool, common_steps, flat_map-append, slice_get_within, MemoryFault, PlacesRise, Games, node_count, CursorState, advanced, Line, lines, SinkState, TakesNothing, Unheld, Held, HasPlays, PlaysLine, index_by, judged_nodes, RunFault, Form, IsCutShort, limited, record_of, output, plays_of, plays_in, ArePlaysFor, WritesLines, slice_get_past, next_by, ◌≡◌, ℕ, ◌+◌, ◌<◌, ◌≤◌, List, length, take, inl, inr, ap, ◌∙◌, arith, ◌-◌, drop, slice_get, Some, sym, Option, None, Result, Ok, Err, rules, length-drop, take_all, length-take, take-add, true, unwrap_or, append-nil, get_dropped, get_taken, get_none, Shares, adds_judged, few_judged, page_from, shares_by}
use Rattle.judged_lines.proofs.Touched.{fewer_in_front}
use Rattle.tree_lines.proofs.LeafLines.{lines_within}
use Rattle.sgf_lines.proofs.Running.{one_more, cut_in}
use Rattle.sgf_lines.specs.declared.fault.RunFault.TheVariants.{Read, TooLong, NotSgf, NoSuchLine, Write, Memory}
use Rattle.judged_lines.specs.declared.over_lines.Before.{Before}

-- k lines of the page were written, and the cursor stands after them
pub record IsSoFar (form : Form) (c : Games) (first limit : ℕ) (old : SinkState) (k : ℕ) (at : CursorState) (now : SinkState) : Type 0 where
  pub same : at.games ≡ c
  pub index : at.index ≡ first + k
  pub within : k ≤ length (page_from c first limit)
  pub takes : Appends old.taken now.taken (output form (take k (page_from c first limit)))
  pub failures : now.failures ≡ old.failures

module _ (form : Form) (c : Games) (first limit : ℕ) (old : SinkState) (k : ℕ) (at : CursorState) (now : SinkState) (h : IsSoFar form c first limit old k at now) where
  next_of_page : (line : Line) → k < limit → slice_get (lines at.games) at.index ≡ Some line → slice_get (page_from c first limit) k ≡ Some line
  next_of_page line lt found = grind (arith, common_steps, get_taken, get_dropped)

  -- the next record is written too
  pub one_written : (new : CursorState) (sink : SinkState) (line : Line) → k < limit → slice_get (lines at.games) at.index ≡ Some line → new ≡ advanced at
      → Appends now.taken sink.taken (record_of form line) → sink.failures ≡ now.failures → IsSoFar form c first limit old (k + 1) new sink
  one_written new sink line lt found moved more failures = search (rules, next_of_page, slice_get_within, page_from, one_more, Appends-trans)

  -- the sink failed within the next record
  pub cut_short : (sink : SinkState) (line : Line) (n : ℕ) → k < limit → slice_get (lines at.games) at.index ≡ Some line → n < length (record_of form line)
      → Appends now.taken sink.taken (take n (record_of form line)) → IsCutShort form (page_from c first limit) k old sink
  cut_short sink line n lt found less more = cut_in form (page_from c first limit) k line n old now sink (next_of_page line lt found) less h.takes more

  -- all lines of the page were written
  all_of : (plays : ℕ) → plays ≡ plays_of form (take k (page_from c first limit)) → length (page_from c first limit) ≤ k → WritesLines form (page_from c first limit) old now plays (Ok k)
  all_of plays are le = grind (arith, common_steps, take_all)

  -- no line is left
  pub none_left : (plays : ℕ) → plays ≡ plays_of form (take k (page_from c first limit)) → slice_get (lines at.games) at.index ≡ None → WritesLines form (page_from c first limit) old now plays (Ok k)
  none_left plays are none = grind (arith, common_steps, get_dropped, all_of, get_none, length-take)

  -- as many lines were written as were asked for
  pub limit_met : (plays : ℕ) → plays ≡ plays_of form (take k (page_from c first limit)) → limit ≤ k → WritesLines form (page_from c first limit) old now plays (Ok k)
  limit_met plays are le = all_of plays are (omega (arith, length-take limit (drop first (lines c))))

-- the page by the options
pub for_options : (form : Form) (c : Games) (first : ℕ) (asked : Option ℕ) (limit : ℕ) (old new : SinkState) (plays : ℕ) (result : Result ℕ RunFault) → limit ≡ unwrap_or asked (node_count c)
    → WritesLines form (page_from c first limit) old new plays result → WritesLines form (limited asked (drop first (lines c))) old new plays result
for_options form c first asked limit old new plays result is h = grind (arith, common_steps, lines_within, length-drop, take_all)

-- a line more plays no less
plays_grow : (form : Form) (ls : List Line) (k : ℕ) → plays_of form (take k ls) ≤ plays_of form (take (k + 1) ls)
plays_grow form ls k = grind (arith, common_steps, take-add, flat_map-append, fewer_in_front, cases_Bool)

module _ (c : Games) (rise : PlacesRise c) (first limit : ℕ) where
  -- a line adds its judged nodes that it doesn't share with the one before it
  pub adds : (form : Form) (k shared : ℕ) (line : Line) → slice_get (page_from c first limit) k ≡ Some line → Shares c rise first limit k shared
      → plays_of form (take (k + 1) (page_from c first limit)) ≡ plays_of form (take k (page_from c first limit)) + plays_in form (length (judged_nodes line) - shared)
  adds form k shared line e h = grind (arith, common_steps, adds_judged, cases_Bool)

  -- no more than there are nodes
  pub few : (form : Form) (k : ℕ) → plays_of form (take k (page_from c first limit)) ≤ node_count c
  few form k = search (rules, few_judged, cases_Bool)

  pub few_played : (form : Form) (old new : SinkState) (plays : ℕ) (result : Result ℕ RunFault) → WritesLines form (page_from c first limit) old new plays result → plays ≤ node_count c
  few_played form old new plays (Ok k) h = omega (arith, h.2, few form (length (page_from c first limit)), ap (plays_of form) (take_all (length (page_from c first limit)) (page_from c first limit) (omega arith)))
  few_played form old new plays (Err Read) h = absurd h
  few_played form old new plays (Err TooLong) h = absurd h
  few_played form old new plays (Err (NotSgf at len)) h = absurd h
  few_played form old new plays (Err (NoSuchLine place)) h = absurd h
  few_played form old new plays (Err (Write k)) h = omega (arith, h.1.at_most, few form (k + 1))
  few_played form old new plays (Err (Memory k)) h = omega (arith, h.2.at_most, few form (k + 1))

-- a run never goes back to a line for which memory was refused
pub goes_forth : (k : ℕ) (before : Before) (at : CursorState) → (k ≡ 0 → before ≡ Unheld) → (0 < k → before ≡ Held) → next_by before at ≡ at
goes_forth k before at first_line later = grind (arith, common_steps)

module _ (form : Form) (counts : ℕ → ℕ) (counts_are : (n : ℕ) → counts n ≡ plays_in form n) (c : Games) (rise : PlacesRise c) (first limit k : ℕ) (before : Before) (at : CursorState) (old sink : SinkState)
    (written : IsSoFar form c first limit old k at sink) (first_line : k ≡ 0 → before ≡ Unheld) (later : 0 < k → before ≡ Held) (lt : k < limit) (now : ℕ) (h : now ≡ plays_of form (take k (page_from c first limit))) where
  pub found_there : (line : Line) → slice_get (lines at.games) (index_by before at.index) ≡ Some line → slice_get (lines at.games) at.index ≡ Some line
  found_there line found = ap (λ (p : CursorState). slice_get (lines at.games) p.index) (sym (goes_forth k before at first_line later)) ∙ found

  next_adds : (n : ℕ) → HasPlays counts before at n → plays_of form (take (k + 1) (page_from c first limit)) ≡ plays_of form (take k (page_from c first limit)) + n
  next_adds n p =
      let page = page_from c first limit in
      let here : slice_get page k ≡ Some p.line = next_of_page form c first limit old k at sink written p.line lt (found_there p.line p.found) in
      let shares : Shares c rise first limit k p.held = shares_by c rise first limit k before at p.held written.same written.index first_line later p.are_held in
      let count : n ≡ plays_in form (length (judged_nodes p.line) - p.held) = p.count_is ∙ counts_are (length (judged_nodes p.line) - p.held) in
      adds c rise first limit form k p.held p.line here shares ∙ ap (λ m. plays_of form (take k page) + m) (sym count)

  -- the next line was played whole
  pub one_played : (new : ℕ) → PlaysLine {E = MemoryFault} counts before at now new (Ok true) → new ≡ plays_of form (take (k + 1) (page_from c first limit))
  one_played new p = omega (arith, p.2, h, next_adds p.0 p.1)

  -- but its record wasn't taken whole
  pub played_then_cut : (new : ℕ) → PlaysLine {E = MemoryFault} counts before at now new (Ok true) → ArePlaysFor form (page_from c first limit) k new
  played_then_cut new p = omega (arith, one_played new p, plays_grow form (page_from c first limit) k)

  -- no memory for all of it
  pub played_in_part : (e : MemoryFault) (new : ℕ) → PlaysLine counts before at now new (Err e) → ArePlaysFor form (page_from c first limit) k new
  played_in_part e new (inl none) = record { at_least = omega (arith, none, h); at_most = omega (arith, none, h, plays_grow form (page_from c first limit) k) }
  played_in_part e new (inr p) = record { at_least = omega (arith, p.2, h); at_most = omega (arith, p.3, h, next_adds p.0 p.1) }

-- the records were written, and then the flush failed
pub not_flushed : (form : Form) (ls : List Line) (old now new : SinkState) (plays k : ℕ) → WritesLines form ls old now plays (Ok k) → TakesNothing now new → WritesLines form ls old new plays (Err (Write k))
not_flushed form ls old now new plays k h f = grind (arith, common_steps, take_all, append-nil, slice_get_past)
