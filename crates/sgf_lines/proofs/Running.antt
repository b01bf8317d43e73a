-- What a run writes, and its answer for each way to end.
use Rattle.sgf_lines.proofs.Common.{◌≡◌, ℕ, ◌+◌, ◌<◌, List, ◌++◌, length, take, drop, slice_get, Some, Result, Ok, Err, sym, arith, add-one, Option, ap, rules, take-append-drop, length-drop, option_map, OnOk, ◌∙◌, Appends, Appends-trans, common_steps, slice_get_within, MAX_LENGTH, Spells, Games, Line, lines, SequencesState, SinkState, SourceState, HasDelivered, RunFault, Form, Options, IsCutShort, read_failures, IsGood, Answers, write_failures, unread, limited, record_of, output, AnswersPlays, IsRunWithPlays, WritesLines, IsReading, HasReadAll, IsStart, more_texts}
use Rattle.sgf_tree.specs.Refusal.{IsFaultyWhereNotSgf}
use Rattle.sgf_tree.specs.declared.fault.ReadFault.{ReadFault}
use Rattle.sgf_tree.specs.declared.fault.ReadFault.TheVariants.{TooLong as TextTooLong}

pub no_read : (form : Form) (ls : List Line) (sink new_sink : SinkState) (plays : ℕ) (result : Result ℕ RunFault) → WritesLines form ls sink new_sink plays result → read_failures result ≡ 0
no_read form ls sink new_sink plays result known = search rules

-- one record more
pub one_more : (form : Form) (ls : List Line) (k : ℕ) (line : Line) → slice_get ls k ≡ Some line
    → output form (take (k + 1) ls) ≡ output form (take k ls) ++ record_of form line
one_more form ls k line e = rw add-one (sym (more_texts (record_of form) ls k line e))

-- the first n bytes of the next record were taken, but not all of it
pub cut_in : (form : Form) (ls : List Line) (k : ℕ) (line : Line) (n : ℕ) (old now new : SinkState) → slice_get ls k ≡ Some line → n < length (record_of form line)
    → Appends old.taken now.taken (output form (take k ls)) → Appends now.taken new.taken (take n (record_of form line)) → IsCutShort form ls k old new
cut_in form ls k line n old now new e lt before more =
    let text = record_of form line in
    record {
      lines = omega (arith, slice_get_within ls k line e);
      part = take n text;
      takes = Appends-trans old.taken now.taken new.taken (output form (take k ls)) (take n text) before more;
      is_part = rw e (drop n text, omega (arith, length-drop n text), sym (take-append-drop n text));
    }

module _ (o : Options) (text : List ℕ) (to_come : Option (List ℕ)) (old new : SinkState) where
  lines_say : (ls : List Line) (plays : ℕ) (result : Result ℕ RunFault) → IsGood o text to_come ls → WritesLines o.form ls old new plays result → OnOk result (HasDelivered new)
      → Answers o text to_come old new result × AnswersPlays o text to_come plays result
  lines_say ls plays result good wrote delivered = search rules

module _ (o : Options) (source new_source : SourceState) (text : List ℕ) (h : HasReadAll source new_source text) (sink : SinkState) (old : ℕ) where
  run_of : (new_sink : SinkState) (new : ℕ) (result : Result ℕ RunFault) (plays : ℕ) → Answers o text new_source.to_come sink new_sink result × AnswersPlays o text new_source.to_come plays result
      → new ≡ old + plays → read_failures result ≡ 0 → new_sink.failures ≡ sink.failures + write_failures result → IsRunWithPlays o source new_source sink new_sink old new result
  run_of new_sink new result plays answers rises reads writes =
      record {
        run = record { given = text; gives = h.read.gives; consumes = h.read.consumes; answers = answers.0; source_failures = omega (arith, h.read.failures, reads); sink_failures = writes };
        plays = plays;
        rises = rises;
        answers = answers.1;
      }

  -- no cursor stands before the page
  pub no_start_run : (c : Games) (fault : RunFault) → Spells c text → IsStart c o.after (Err fault)
      → read_failures {A = ℕ} (Err fault) ≡ 0 → sink.failures ≡ sink.failures + write_failures {A = ℕ} (Err fault) → IsRunWithPlays o source new_source sink sink old old (Err fault)
  no_start_run c fault spelled start reads writes = search (rules, run_of)

  -- the text isn't one of the grammar, or wasn't read whole
  pub unread_run : (fault : ReadFault) → (fault ≡ TextTooLong → MAX_LENGTH < length text) → IsFaultyWhereNotSgf text fault
      → IsRunWithPlays o source new_source sink sink old old (Err (unread fault (length text)))
  unread_run fault long faulty = grind (arith, common_steps, run_of)

  -- the lines of the page were written
  pub lines_run : (c : Games) (cursor : SequencesState) (new_sink : SinkState) (plays new : ℕ) (result : Result ℕ RunFault) → Spells c text → IsStart c o.after (Ok cursor)
      → WritesLines o.form (limited o.limit (drop cursor.at.index (lines c))) sink new_sink plays result → new ≡ old + plays
      → OnOk result (HasDelivered new_sink) → new_sink.failures ≡ sink.failures + write_failures result → IsRunWithPlays o source new_source sink new_sink old new result
  lines_run c cursor new_sink plays new result spelled start w rises delivered writes =
      let ls = limited o.limit (drop cursor.at.index (lines c)) in
      let good : IsGood o text new_source.to_come ls = record { whole = h.whole; has_page = record { games = c; spelled = spelled; page_is = ap (option_map (limited o.limit)) start } } in
      run_of new_sink new result plays (lines_say o text new_source.to_come sink new_sink ls plays result good w delivered) rises
      (no_read o.form ls sink new_sink plays result w) writes

module _ (source new_source : SourceState) where
  -- the source wasn't read to its end
  pub failed_run : (o : Options) (sink : SinkState) (plays : ℕ) (text : List ℕ) (fault : RunFault) → IsReading {A = Unit {0}} source new_source text (Err fault)
      → new_source.failures ≡ source.failures + read_failures {A = Unit {0}} (Err fault) → IsRunWithPlays o source new_source sink sink plays plays (Err fault)
  failed_run o sink plays text fault read failures = search rules

  -- the source was read to its end
  pub has_read_all : (text given : List ℕ) (unit : Unit {0}) → IsReading source new_source given (Ok unit) → text ≡ given → new_source.failures ≡ source.failures + 0
      → HasReadAll source new_source text
  has_read_all text given unit r is failures =
      rw (is ∙ r.answers.1) (record { read = record { gives = r.gives; consumes = r.consumes; failures = omega arith }; whole = r.answers.0 })
