-- The parts of the record were put one after the other.
use Rattle.sgf_lines.proofs.Common.{line_before, comment_row, row_of, ap, ◌∙◌, ◌∷◌, Line, PutsAll, script, script_text, built_text, ◌≡◌, ◌++◌, Some, Ok, Err, subst, rules, codes}
use Rattle.sgf_lines.proofs.LineCounts.{both_put, first_cut}
use Rattle.sgf_lines.proofs.RunRecords.{made_script}
use Rattle.sgf_lines.proofs.form.gtp.GtpFormLineForm.put.Given.{Over}
use Rattle.sgf_lines.proofs.form.gtp.GtpFormLineForm.put.Goals as goal
use Rattle.sgf_lines.proofs.form.gtp.GtpFormLineForm.put.Goals.{After-put_all, In_ok-put_all}

parts_are : (g : Over) (c : After-put_all g) (line : Line) → line_before c.args.cursor.now.at ≡ Some line
    → built_text c.put.new.self ++ (script_text c.args.self.now.judged.keeper ++ codes "\n") ≡ script line
parts_are g c line before =
    let row : built_text c.put.new.self ≡ comment_row (row_of line c.args.self.now.judged.verdict) = c.put.ensures.text ∙ ap (λ t. 35 ∷ 32 ∷ t) (c.lay_out.ensures.text line before) in
    search (rules, made_script)

first_put : (g : Over) (c : In_ok-put_all g) → PutsAll {E = Unit {0}} (g.T.Sink.state c.args.sink.now) (g.T.Sink.state c.put_all.new.sink) (built_text c.put.new.self) (Ok (tt {0}))
first_put g c = rw c.text.ensures at c.in_ok-put_all.ensures

pub returns-in_err-put_all : goal.returns-in_err-put_all
returns-in_err-put_all g c line before =
    let old = g.T.Sink.state c.args.sink.now in
    let one = g.T.Sink.state c.put_all.new.sink in
    let row = built_text c.put.new.self in
    let put : PutsAll {A = Unit {0}} old one row (Err c.in_err-put_all.field-0.0) = rw c.text.ensures at c.in_err-put_all.ensures in
    let r = c.from_residual.result in
    subst (λ t. PutsAll old one t r) (parts_are g (goal.at.returns-in_err-put_all g c).After-put_all line before) (first_cut (Unit {0}) old one row _ c.in_err-put_all.field-0.0 r c.from_residual.ensures.0 put)

pub returns-in_err-put_all-2 : goal.returns-in_err-put_all-2
returns-in_err-put_all-2 g c line before =
    let at = goal.at.returns-in_err-put_all-2 g c in
    let old = g.T.Sink.state c.args.sink.now in
    let one = g.T.Sink.state c.put_all.new.sink in
    let two = g.T.Sink.state c.put_all-2.new.sink in
    let commands = script_text c.args.self.now.judged.keeper in
    let first = first_put g at.In_ok-put_all in
    let put : PutsAll {A = Unit {0}} one two commands (Err c.in_err-put_all-2.field-0.0) = rw c.text-2.ensures at c.in_err-put_all-2.ensures in
    let r = c.from_residual-in_err-put_all-2.result in
    let second = first_cut (Unit {0}) one two commands (codes "\n") c.in_err-put_all-2.field-0.0 r c.from_residual-in_err-put_all-2.ensures.0 put in
    subst (λ t. PutsAll old two t r) (parts_are g at.After-put_all line before) (both_put old one two _ _ r first.0 first.1 second)

pub returns : goal.returns
returns g c line before =
    let at = goal.at.returns g c in
    let old = g.T.Sink.state c.args.sink.now in
    let one = g.T.Sink.state c.put_all.new.sink in
    let two = g.T.Sink.state c.put_all-2.new.sink in
    let new = g.T.Sink.state c.put_all-3.new.sink in
    let r = c.put_all-3.result in
    let commands = script_text c.args.self.now.judged.keeper in
    let first = first_put g at.In_ok-put_all in
    let second : PutsAll {E = Unit {0}} one two commands (Ok (tt {0})) = rw c.text-2.ensures at c.in_ok-put_all-2.ensures in
    subst (λ t. PutsAll old new t r) (parts_are g at.After-put_all line before) (both_put old one new _ _ r first.0 first.1 (both_put one two new commands (codes "\n") r second.0 second.1 c.put_all-3.ensures))
