-- Plain words are the options of a command line in the order of its help, then FILE. This file says which job they ask for.
use Rattle.std.specs.Prelude.{◌≡◌, ◌≢◌, ◌⊎◌, ℕ, ◌<◌, ◌≤◌, List, [], ◌∷◌, ◌++◌, length, Option, Some, None, IfSome, codes}
use Rattle.std.specs.Prelude.{option_map, unwrap_or, if◌then◌else◌, string_bytes}
use Rattle.std.specs.Str.{bytes_eq}
use Rattle.std.specs.Str.Parse.{AllDigits, digits_value}
use Rattle.sgf_lines.specs.declared.options.Form.{Form}
use Rattle.sgf_lines.specs.declared.options.Form.TheVariants as form
use Rattle.sgf_lines.specs.declared.options.Options.{Options}
use Rattle.sgf_lines.specs.Form.{form_word}
use Rattle.sgfsplit_job.specs.declared.jobs.Job.{Job}
use Rattle.sgfsplit_job.specs.declared.jobs.Job.TheVariants.{Split, Count}

abbrev pub Word : Type 0
Word = List ℕ

-- 1 to 18 decimal digits
abbrev pub IsNumberWord : Word → Type 0
IsNumberWord word = (0 < length word) × (length word ≤ 18) × AllDigits 10 word

-- `-`
abbrev pub hyphen : ℕ
hyphen = 45

-- a name that isn't empty and doesn't begin with a hyphen
abbrev pub IsNameWord : Word → Type 0
IsNameWord [] = ⊥
IsNameWord (first ∷ rest) = first ≢ hyphen

-- FILE: a name as `IsNameWord` says, or `-`
abbrev pub IsFileWord : Word → Type 0
IsFileWord word = IsNameWord word ⊎ (word ≡ codes "-")

-- the file that FILE names; None, which is standard input, if FILE isn't given or is `-`
abbrev pub file_of : Option Word → Option Word
file_of None = None
file_of (Some word) = if bytes_eq word (codes "-") then None else Some word

-- what follows `split`: each option and FILE may be given or not
pub record SplitWords : Type 0 where
  pub form : Option Form
  pub after : Option Word
  pub limit : Option Word
  pub file : Option Word

pub record ArePlainWords (words : SplitWords) : Type 0 where
  pub after : IfSome words.after IsNumberWord
  pub limit : IfSome words.limit IsNumberWord
  pub file : IfSome words.file IsFileWord

-- an option and its value; no words if the option isn't given
abbrev pub option_words : Word → Option Word → List Word
option_words option None = []
option_words option (Some value) = option ∷ value ∷ []

abbrev pub file_words : Option Word → List Word
file_words None = []
file_words (Some file) = file ∷ []

-- the program's name, `split`, the options in this order, FILE
abbrev pub split_words : Word → SplitWords → List Word
split_words name words =
    name ∷ codes "split"
    ∷ (option_words (codes "--form") (option_map form_word words.form)
    ++ (option_words (codes "--after") words.after
    ++ (option_words (codes "--limit") words.limit ++ file_words words.file)))

-- the program's name, `count`, FILE
abbrev pub count_words : Word → Option Word → List Word
count_words name file = name ∷ codes "count" ∷ file_words file

-- the options that the words give; without `--form` the form is `list`
abbrev pub options_of : SplitWords → Options
options_of words = record {
  form = unwrap_or words.form form.List;
  after = option_map (digits_value 10) words.after;
  limit = option_map (digits_value 10) words.limit;
}

-- the job is to split the file with this name, with these options; None is standard input
abbrev pub SplitsBy : Options → Option Word → Job → Type 0
SplitsBy options file (Split o f) = (o ≡ options) × (option_map string_bytes f ≡ file)
SplitsBy options file (Count f) = ⊥

-- the job is to count the games, nodes and lines of the file with this name; None is standard input
abbrev pub CountsFile : Option Word → Job → Type 0
CountsFile file (Split o f) = ⊥
CountsFile file (Count f) = option_map string_bytes f ≡ file
