-- The command line, as clap reads it.
use Rattle.std.specs.Prelude.{◌≡◌, ℕ, true, List, [], ◌∷◌, map, Some, codes}
use Rattle.std.specs.Borrow.{Bor}
use Rattle.clap.specs.Faults.{fault_of}
use Rattle.clap.specs.Kinds.{IsAmong}
use Rattle.clap.specs.Values.{kind_of}
use Rattle.clap.specs.Walk.{Rule}
use Rattle.clap.specs.Simple.{App, new_app, new_rule, on_top, with_rule, with_subcommand}
use Rattle.clap.specs.declared.builder.value_parser.ValueParser.TheVariants.{Names, Unsigned}
use Rattle.clap.specs.declared.error.Error.{Error}
use Rattle.clap.specs.declared.error.kind.ErrorKind.{ErrorKind}
use Rattle.clap.specs.declared.error.kind.ErrorKind.TheVariants.{OutOfMemory}
use Rattle.sgf_lines.specs.Form.{forms, form_word}
use Rattle.sgfsplit_job.specs.declared.jobs.JobFault.{JobFault}
use Rattle.sgfsplit_job.specs.declared.jobs.JobFault.TheVariants.{Words, Memory}

-- a list of the names of forms, as the program holds it
abbrev pub FormNames : Type 0
FormNames = Bor (List (Bor (List ℕ)))

abbrev pub names_of : FormNames → List (List ℕ)
names_of names = map (λ name. name.now) names.now

-- `--form FORM`: FORM is one of these names; without this option it is `list`
abbrev pub form_rule : FormNames → Rule
form_rule names = record (new_rule (codes "form")) {
  long = Some (codes "form");
  value_names = 1;
  parser = Some (Names names);
  defaults = codes "list" ∷ [];
}

-- an option that takes a 64-bit number
abbrev pub number_rule : List ℕ → Rule
number_rule name = record (new_rule name) {
  long = Some name;
  value_names = 1;
  parser = Some (Unsigned 0 18446744073709551615);
}

-- the argument FILE
abbrev pub file_rule : Rule
file_rule = record (new_rule (codes "file")) { value_names = 1 }

-- `sgfsplit`, which needs a subcommand
abbrev pub program_alone : App
program_alone = on_top (λ s. record s { subcommand_required = true }) (new_app (codes "sgfsplit"))

-- `split [--form FORM] [--after PLACE] [--limit N] [FILE]`
abbrev pub split_app : FormNames → App
split_app names =
    with_rule (with_rule (with_rule (with_rule (new_app (codes "split")) (form_rule names)) (number_rule (codes "after")))
    (number_rule (codes "limit"))) file_rule

-- `count [FILE]`
abbrev pub count_app : App
count_app = with_rule (new_app (codes "count")) file_rule

-- the whole command line
abbrev pub program_app : FormNames → App
program_app names = with_subcommand (with_subcommand program_alone (split_app names).top) count_app.top

-- the names that `--form` takes
abbrev pub form_names : List (List ℕ)
form_names = map form_word forms

-- clap finds no fault in the words as a command line of the program
abbrev pub AreFaultless : List (List ℕ) → Type 0
AreFaultless words =
    (names : FormNames) × (names_of names ≡ form_names) × (fault_of (program_app names) words ≡ [])

-- clap finds a fault of this kind in the words; a request for help counts as a fault
abbrev pub HasFault : List (List ℕ) → ErrorKind → Type 0
HasFault words kind =
    (names : FormNames) × (names_of names ≡ form_names) × IsAmong kind (fault_of (program_app names) words)

-- the fault that an error of clap gives: `Memory` exactly if the error's kind is `OutOfMemory`
abbrev pub IsFaultOf : Error → JobFault → Type 0
IsFaultOf error (Words met) = (met ≡ error) × ¬ (kind_of error ≡ OutOfMemory)
IsFaultOf error Memory = kind_of error ≡ OutOfMemory

-- If words are refused with `Words error`, clap finds a fault of the error's kind in them. `Memory` says nothing of the words.
abbrev pub IsTrueOf : List (List ℕ) → JobFault → Type 0
IsTrueOf words (Words error) = HasFault words (kind_of error)
IsTrueOf words Memory = Unit {0}
