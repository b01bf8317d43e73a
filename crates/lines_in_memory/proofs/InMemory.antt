-- What follows from a run whose source is a text in memory and whose sink is an empty vector.
use Rattle.std.proofs.Common.{◌≡◌, ℕ, List, [], ◌++◌, Option, Some, None, Ok, sym, ap, ◌∙◌, append-nil}
use Rattle.std.specs.Io.KnownBytes.{Appends, Consumes, IsAtEnd}
use Rattle.tree_lines.specs.Lines.{Line}
use Rattle.sgf_lines.specs.Record.{output}
use Rattle.byte_streams.specs.Streams.{SourceState, SinkState}
use Rattle.sgf_lines.specs.Answer.{HasPage, IsRun}
use Rattle.sgf_lines.specs.declared.options.Options.{Options}

whole_text : (text : List ℕ) (left : Option (List ℕ)) (given : List ℕ) → Consumes (Some text) left given → IsAtEnd left → given ≡ text
whole_text text None given h end = absurd h
whole_text text (Some ys) given h end = sym (h ∙ ap (λ bs. given ++ bs) end ∙ append-nil given)

-- the vector holds the records of the page of the text
pub in_memory : (o : Options) (text items : List ℕ) (source new_source : SourceState) (sink new_sink : SinkState) (k : ℕ) → source.to_come ≡ Some text → sink.taken ≡ Some []
    → new_sink.taken ≡ Some items → IsRun o source new_source sink new_sink (Ok k) → (ls : List Line) × HasPage o text ls × (items ≡ output o.form ls)
in_memory o text items source new_source sink new_sink k starts empty ends h =
    let consumes : Consumes (Some text) new_source.to_come h.given = rw starts at h.consumes in
    let a = h.answers in
    let all = whole_text text new_source.to_come h.given consumes a.1.whole.at_end in
    let takes : Appends (Some []) (Some items) (output o.form a.0) = rw (empty, ends) at a.2 in
    (a.0, rw all at a.1.has_page, takes)
