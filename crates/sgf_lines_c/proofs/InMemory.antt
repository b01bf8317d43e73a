-- What follows from a run or a count whose source is a text in memory.
use Rattle.std.proofs.Common.{◌≡◌, ℕ, ◌+◌, ◌≤◌, List, [], ◌++◌, length, Option, Some, None, Ok, Err, sym, ap, ◌∙◌, append-nil, length-append, arith, inl, inr, refl}
use Rattle.std.proofs.lemmas.Grind.{common_steps}
use Rattle.std.specs.Io.KnownBytes.{Appends, Consumes, IsAtEnd}
use Rattle.byte_streams.specs.Streams.{SourceState, SinkState}
use Rattle.tree_lines.specs.Lines.{Line}
use Rattle.sgf_lines.specs.Record.{output}
use Rattle.sgf_lines.specs.Answer.{MAX_LENGTH, IsWhole, IsGood, Answers, IsRun}
use Rattle.sgf_lines.specs.Counts.{AnswersCount, IsCount}
use Rattle.sgf_lines.specs.declared.options.Options.{Options}
use Rattle.sgf_lines.specs.declared.fault.RunFault.{RunFault}
use Rattle.sgf_lines.specs.declared.fault.RunFault.TheVariants.{Read, TooLong, NotSgf, NoSuchLine, Write, Memory}
use Rattle.sgf_lines_c.specs.SplitAnswer.{IsPartOf, Says}
use Rattle.sgf_lines_c.specs.CountAnswer.{fault_told, Says as SaysCount}
use Rattle.sgf_lines_c.specs.inner.Refusal.{refusal_of}
use Rattle.sgf_lines_c.specs.inner.Running.{IsTaken}

-- a source that is at its end gave exactly the text
whole_text : (text : List ℕ) (left : Option (List ℕ)) (given : List ℕ) → Consumes (Some text) left given → IsAtEnd left → given ≡ text
whole_text text None given h end = absurd h
whole_text text (Some ys) given h end = sym (h ∙ ap (λ bs. given ++ bs) end ∙ append-nil given)

-- a source gave no more bytes than the text has
given_short : (text : List ℕ) (left : Option (List ℕ)) (given : List ℕ) → Consumes (Some text) left given → length given ≤ length text
given_short text None given h = absurd h
given_short text (Some ys) given h = let e : length text ≡ length given + length ys = ap length h ∙ length-append given ys in omega arith

-- a source that was read whole gave exactly the text, which isn't too long
all_given : (text : List ℕ) (left : Option (List ℕ)) (given : List ℕ) → Consumes (Some text) left given → IsWhole given left → (given ≡ text) × (length text ≤ MAX_LENGTH)
all_given text left given h whole = let e = whole_text text left given h whole.at_end in (e, rw e at whole.within)

-- `count` is at most the number of lines of the page of the text
part_of : (o : Options) (text : List ℕ) (left : Option (List ℕ)) (given : List ℕ) (page : List Line) (count : ℕ) → Consumes (Some text) left given → IsGood o given left page → count ≤ length page → IsPartOf o text count
part_of o text left given page count h good fewer = let all = all_given text left given h good.whole in inl (all.1, (page, rw all.0 at good.has_page, fewer))

-- what a failed run over the text says of the text
pub run_refused : (o : Options) (text room : List ℕ) (source new_source : SourceState) (sink new_sink : SinkState) (fault : RunFault) → source.to_come ≡ Some text
    → IsRun o source new_source sink new_sink (Err fault) → Says o text room room (refusal_of fault).1 (refusal_of fault).0
run_refused o text room source new_source sink new_sink fault starts run = by fault run.answers
  where
    left : Option (List ℕ)
    left = new_source.to_come

    consumes : Consumes (Some text) left run.given
    consumes = rw starts at run.consumes

    by : (f : RunFault) → Answers o run.given left sink new_sink (Err f) → Says o text room room (refusal_of f).1 (refusal_of f).0
    by Read a = (inr refl, refl, refl)
    by TooLong a = let short = given_short text left run.given consumes in (omega (arith, a.0, short), refl, refl)
    by (NotSgf at len) a = let all = all_given text left run.given consumes a.0 in grind (arith, common_steps)
    by (NoSuchLine place) a = let all = all_given text left run.given consumes a.0 in (all.1, rw all.0 at a.1, refl, refl)
    by (Write count) a = (part_of o text left run.given a.0 count consumes a.1 a.2.lines, refl, refl)
    by (Memory count) (inl a) = (part_of o text left run.given a.0 count consumes a.1 a.2, refl, refl)
    by (Memory count) (inr a) = (inr a.1, refl, refl)

-- what a failed count over the text says of the text
pub count_refused : (text : List ℕ) (source new_source : SourceState) (fault : RunFault) → source.to_come ≡ Some text → IsCount source new_source (Err fault)
    → SaysCount text (fault_told (refusal_of fault).1.at) (refusal_of fault).0
count_refused text source new_source fault starts count = by fault count.answers
  where
    left : Option (List ℕ)
    left = new_source.to_come

    consumes : Consumes (Some text) left count.given
    consumes = rw starts at count.consumes

    by : (f : RunFault) → AnswersCount count.given left (Err f) → SaysCount text (fault_told (refusal_of f).1.at) (refusal_of f).0
    by Read a = refl
    by TooLong a = let short = given_short text left count.given consumes in (omega (arith, a.0, short), refl)
    by (NotSgf at len) a = let all = all_given text left count.given consumes a.0 in grind (arith, common_steps)
    by (NoSuchLine place) a = absurd a
    by (Write count) a = absurd a
    by (Memory count) a = refl

-- a run over the text succeeded; its sink was empty before, and then held these records
pub taken_in_memory : (o : Options) (text records : List ℕ) (source new_source : SourceState) (sink new_sink : SinkState) (lines : ℕ) → source.to_come ≡ Some text
    → sink.taken ≡ Some [] → new_sink.taken ≡ Some records → IsRun o source new_source sink new_sink (Ok lines) → IsTaken o text records lines
taken_in_memory o text records source new_source sink new_sink lines starts empty ends run =
    let consumes : Consumes (Some text) new_source.to_come run.given = rw starts at run.consumes in
    let a = run.answers in
    let all = all_given text new_source.to_come run.given consumes a.1.whole in
    let takes : Appends (Some []) (Some records) (output o.form a.0) = rw (empty, ends) at a.2 in
    record { page = a.0; page_is = rw all.0 at a.1.has_page; short = all.1; records_are = takes; count = a.3 }
