-- What a run over a text has put into memory.
use Rattle.std.specs.Prelude.{◌≡◌, ℕ, ◌≤◌, List, length}
use Rattle.tree_lines.specs.Lines.{Line}
use Rattle.sgf_lines.specs.Record.{output}
use Rattle.sgf_lines.specs.Answer.{MAX_LENGTH, HasPage}
use Rattle.sgf_lines.specs.declared.options.Options.{Options}

-- `records` are the records of the page of the text, and `lines` is their number
pub record IsTaken (options : Options) (text records : List ℕ) (lines : ℕ) : Type 0 where
  pub page : List Line
  pub page_is : HasPage options text page
  pub short : length text ≤ MAX_LENGTH
  pub records_are : records ≡ output options.form page
  pub count : lines ≡ length page
