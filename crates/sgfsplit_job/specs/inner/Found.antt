-- What clap found for the arguments of `split`.
use Rattle.std.specs.Prelude.{◌≡◌, List, Some, unwrap_or, codes}
use Rattle.clap.specs.Walk.{Row, first_of, one_of, rows_of}
use Rattle.clap.specs.Matches.{found_of}
use Rattle.clap.specs.declared.parser.matches.ArgMatches.{ArgMatches}
use Rattle.sgf_lines.specs.declared.options.Form.TheVariants as form
use Rattle.sgf_lines.specs.Form.{form_word}
use Rattle.sgfsplit_job.specs.PlainWords.{SplitWords}

abbrev pub rows_found : ArgMatches → List Row
rows_found found = rows_of (found_of found)

-- clap found these words; if `--form` isn't given, it found the form `list`
pub record HoldSplitWords (words : SplitWords) (rows : List Row) : Type 0 where
  pub form : first_of (codes "form") rows ≡ Some (form_word (unwrap_or words.form form.List))
  pub after : one_of (codes "after") rows ≡ words.after
  pub limit : one_of (codes "limit") rows ≡ words.limit
  pub file : first_of (codes "file") rows ≡ words.file
