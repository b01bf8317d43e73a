-- The answer of a count, and a row that is put in two pieces.
use Rattle.sgf_lines.proofs.Common.{Appends, Appends-trans, take-append-add, common_steps, take-append-le, Spells, Games, SourceState, SinkState, PutsAll, counts_of, IsCount, HasReadAll, ◌≡◌, ℕ, ◌+◌, length, ap, ◌∙◌, arith, List, ◌++◌, take, Result, Ok, Err, length-append, IsErr}
use Rattle.sgf_lines.specs.declared.counting.Counts.{Counts}

module _ (source new_source : SourceState) (text : List ℕ) (h : HasReadAll source new_source text) where
  pub count_of_games : (c : Games) (counts : Counts) → Spells c text → counts ≡ counts_of c → IsCount source new_source (Ok counts)
  count_of_games c counts spelled is = grind (arith, common_steps)

-- two pieces are put as one
pub both_put : {B F : Type 0} (old now new : SinkState) (first second : List ℕ) (result : Result B F) → Appends old.taken now.taken first → now.failures ≡ old.failures
    → PutsAll now new second result → PutsAll old new (first ++ second) result
both_put old now new first second (Ok v) h same k = (Appends-trans old.taken now.taken new.taken first second h k.0, k.1 ∙ same)
both_put old now new first second (Err e) h same k = (
  length first + k.0,
  omega (arith, length-append first second, k.1),
  rw take-append-add (Appends-trans old.taken now.taken new.taken first (take k.0 second) h k.2),
  k.3 ∙ ap (λ n. n + 1) same,
)

-- or the sink failed within the first one
pub first_cut : {B E F : Type 0} (A : Type 0) (old new : SinkState) (first second : List ℕ) (e : E) (result : Result B F) → IsErr result → PutsAll {A = A} old new first (Err e) → PutsAll old new (first ++ second) result
first_cut A old new first second e result is k = grind (arith, common_steps, length-append, take-append-le)
