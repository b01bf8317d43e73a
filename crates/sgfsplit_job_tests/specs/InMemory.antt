-- What a job has written if it ends with status 0.
use Rattle.std.specs.Prelude.{◌≡◌, ℕ, List}
use Rattle.sgf_outline.specs.Tree.{Games}
use Rattle.sgf_outline.specs.Spelling.{Spells}
use Rattle.tree_lines.specs.Lines.{Line}
use Rattle.sgf_lines.specs.Record.{output}
use Rattle.sgf_lines.specs.Answer.{HasPage}
use Rattle.sgf_lines.specs.Counts.{counts_of, counts_row}
use Rattle.sgfsplit_job.specs.declared.jobs.Job.{Job}
use Rattle.sgfsplit_job.specs.declared.jobs.Job.TheVariants.{Split, Count}

-- With status 0 this was written: for `Split` the records of the text's page, for `Count` the row of the text's counts.
abbrev pub HasWritten : Job → List ℕ → ℕ → List ℕ → Type 0
HasWritten (Split options file) text status written =
    status ≡ 0 → (page : List Line) × HasPage options text page × (written ≡ output options.form page)
HasWritten (Count file) text status written = status ≡ 0 → (games : Games) × Spells games text × (written ≡ counts_row (counts_of games))
