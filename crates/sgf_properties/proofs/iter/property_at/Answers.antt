use Rattle.sgf_properties.proofs.Common.{IsSome, ◌+◌, get_or, ℕ, List, Option, Some, None, MatchOption, drop, slice_range, refl, take_rest, rules, is_letter, IsSpan, IsNoPropValue}
use Rattle.sgf_properties.proofs.NameEnds.{name-begins}
use Rattle.sgf_properties.proofs.Iterating.{IsNextProperty, value-there, next-property}
use Rattle.sgf_properties.proofs.iter.property_at.Goals as goal
use Rattle.sgf_properties.proofs.iter.property_at.Goals.{After-value_at, After-values_end-next, in-Some, in-None}

-- the letters of the identifier
letters : (c : After-value_at) → IsSpan is_letter c.args.text.now c.args.start c.match-short_name_end.end
letters c = elim c.match-short_name_end.branch [
  | in-Some w ↦ rw w.end-is w.in-Some.ensures.letters
  | in-None w ↦ rw w.end-is w.letters_end-end.ensures
]

-- there is a value
some : (o : Option (ℕ × ℕ)) (u : List ℕ) (P : ℕ × ℕ → Type 0) → MatchOption o (IsNoPropValue u) P → ¬ IsNoPropValue u → IsSome o
some None u P none there = absurd (there none)
some (Some v) u P h there = refl

pub unwrap-from-requires : goal.unwrap-from-requires
unwrap-from-requires c =
    let r = c.requires in
    some c.value_at.result _ _ c.value_at.ensures
    (value-there c.args.text.now c.args.start r.white_space r.held r.within r.capital c.match-short_name_end.end (letters c))

-- a property was found
found : (c : After-values_end-next) → IsSpan is_letter c.args.text.now c.args.start c.match-short_name_end.end → IsNextProperty c.args.text.now c.args.start c.match-short_name_end.end
    (slice_range c.args.text.now c.unwrap-from.result.0 c.unwrap-from.result.1)
    (drop (c.unwrap-from.result.1 + 1) c.args.text.now)
    (drop c.values_end-next.result c.args.text.now)
found c long =
    let r = c.requires in
    next-property c.args.text.now c.args.start r.white_space r.held r.within r.capital c.match-short_name_end.end long _ _ _ (search rules) c.values_end-next.ensures.past

pub invariant_of-property : goal.invariant_of-property
invariant_of-property c =
    let s = c.args.text.now in
    let capital = c.requires.capital in
    let long = letters (goal.at.invariant_of-property c).After-value_at in (
      rw (take_rest s (c.unwrap-from.result.1 + 1)) (found (goal.at.invariant_of-property c).After-values_end-next long).more,
      (
        get_or s c.args.start 0,
        slice_range s (c.args.start + 1) c.match-short_name_end.end,
        name-begins s c.args.start c.match-short_name_end.end c.requires.within capital long,
        capital,
      ),
    )

pub returns-clause-left : goal.returns-clause-left
returns-clause-left c =
    let at = goal.at.returns-clause-left c in
    (found at.After-values_end-next (letters at.After-value_at)).left

pub returns-clause-first : goal.returns-clause-first
returns-clause-first c =
    let at = goal.at.returns-clause-first c in
    rw (take_rest c.args.text.now (c.unwrap-from.result.1 + 1)) (found at.After-values_end-next (letters at.After-value_at)).is

pub returns-clause-spelled : goal.returns-clause-spelled
returns-clause-spelled c =
    let at = goal.at.returns-clause-spelled c in
    let next = found at.After-values_end-next (letters at.After-value_at) in
    (next.one, next.spelled)
