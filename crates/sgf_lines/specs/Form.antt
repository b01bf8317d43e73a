-- The forms in which a line of play is written. For each: the word that names it, the record of a line, and whether lines are judged.
use Rattle.std.specs.Prelude.{ℕ, Bool, true, false, List, [], ◌∷◌, codes}
pub use Rattle.sgf_lines.specs.declared.options.Form.{Form}
use Rattle.sgf_lines.specs.declared.options.Form.TheVariants as form
use Rattle.tree_lines.specs.Lines.{Line}
use Rattle.sgf_lines.specs.ListRow.{list_record}
use Rattle.sgf_lines.specs.SgfRecord.{sgf_record}
use Rattle.sgf_lines.specs.Script.{script}

-- all forms, in the order of their numbers, from 0
abbrev pub forms : List Form
forms = form.List ∷ form.Sgf ∷ form.Gtp ∷ []

-- what is said of a form
pub record Entry : Type 0 where
  pub word : List ℕ
  pub text : Line → List ℕ
  pub judges : Bool

abbrev pub entry_of : Form → Entry
entry_of form.List = record { word = codes "list"; text = list_record; judges = true }
entry_of form.Sgf = record { word = codes "sgf"; text = λ line. sgf_record line.nodes; judges = false }
entry_of form.Gtp = record { word = codes "gtp"; text = script; judges = true }

-- how a form is named
abbrev pub form_word : Form → List ℕ
form_word form = (entry_of form).word
