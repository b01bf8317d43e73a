use Rattle.std.proofs.Common.{List, ℕ, ◌≡◌, ◌∙◌, ap, ap₂, map, string_bytes, refl, subst, sym, Option, inl, inr}
use Rattle.std.proofs.lemmas.Result.{err_from_is_err_and}
use Rattle.clap.specs.Faults.{fault_of, is_simple_and_free}
use Rattle.clap.specs.Kinds.{HasKind, IsAmong, Kinds}
use Rattle.clap.specs.Simple.{is_simple, subcommand_of}
use Rattle.clap.specs.Values.{kind_of}
use Rattle.clap.specs.declared.error.Error.{Error}
use Rattle.clap.specs.declared.error.kind.ErrorKind.TheVariants.{OutOfMemory}
use Rattle.clap.specs.Takes.{takes}
use Rattle.sgfsplit_job.specs.CommandLine.{HasFault, IsFaultOf, IsTrueOf}
use Rattle.sgfsplit_job.specs.declared.jobs.JobFault.{JobFault}
use Rattle.sgfsplit_job.specs.declared.jobs.JobFault.TheVariants.{Memory, Words}
use Rattle.sgfsplit_job.specs.PlainWords.{CountsFile, Word, file_of}
use Rattle.sgfsplit_job.proofs.CommandLine.{app_free, app_simple}
use Rattle.sgfsplit_job.proofs.PlainWords.{split_words_taken, split_words_entered, count_words_taken, count_words_entered, count_words_hold}
use Rattle.sgfsplit_job.proofs.words.job.Goals as goal

-- an error of a kind other than OutOfMemory has one of these kinds
not_memory : (kinds : Kinds) (error : Error) → HasKind kinds error → ¬ (kind_of error ≡ OutOfMemory) → IsAmong (kind_of error) kinds
not_memory kinds error h other = elim h [ inl memory ↦ absurd (other memory) | inr among ↦ among ]

-- an error of the kind `OutOfMemory` gives the fault `Memory`
memory_of : (error : Error) (fault : JobFault) → IsFaultOf error fault → kind_of error ≡ OutOfMemory → fault ≡ Memory
memory_of error (Words met) is kind = absurd (is.1 kind)
memory_of error Memory is kind = refl

-- a fault is true of the words if its error is
true_of : (words : List (List ℕ)) (error : Error) (fault : JobFault) → IsFaultOf error fault → (¬ (kind_of error ≡ OutOfMemory) → HasFault words (kind_of error)) → IsTrueOf words fault
true_of words error (Words met) is told = subst (λ (e : Error). HasFault words (kind_of e)) (sym is.0) (told is.1)
true_of words error Memory is told = tt

-- clap accepts plain words, so it returns an error for them only if memory is refused
pub returns-in_err-found-clause-split : goal.returns-in_err-found-clause-split
returns-in_err-found-clause-split c = λ name given plain are.
    let command = c.in_ok-command.ensures in
    let taken = ap₂ takes command.2 are ∙ split_words_taken command.0 command.1 name given plain in
    let left = err_from_is_err_and c.from_residual-in_err-found.result c.from_residual-in_err-found.ensures.1 in
    rw left.1 (memory_of c.in_err-found.field-0.0 left.0 left.2 (c.in_err-found.ensures.passes taken))

pub returns-in_err-found-clause-count : goal.returns-in_err-found-clause-count
returns-in_err-found-clause-count c = λ name file plain are.
    let command = c.in_ok-command.ensures in
    let taken = ap₂ takes command.2 are ∙ count_words_taken command.0 command.1 name file plain in
    let left = err_from_is_err_and c.from_residual-in_err-found.result c.from_residual-in_err-found.ensures.1 in
    rw left.1 (memory_of c.in_err-found.field-0.0 left.0 left.2 (c.in_err-found.ensures.passes taken))

pub returns-in_err-found-clause-faulty : goal.returns-in_err-found-clause-faulty
returns-in_err-found-clause-faulty c =
    let command = c.in_ok-command.ensures in
    let error = c.in_err-found.field-0.0 in
    let free = ap is_simple_and_free command.2 ∙ app_free command.0 in
    let left = err_from_is_err_and c.from_residual-in_err-found.result c.from_residual-in_err-found.ensures.1 in
    let told : ¬ (kind_of error ≡ OutOfMemory) → HasFault (map string_bytes c.args.words.now) (kind_of error) = λ other.
    let kinds = not_memory _ error (c.in_err-found.ensures.kinds free) other in
    (command.0, command.1, subst (λ (ks : Kinds). IsAmong (kind_of error) ks) (ap (λ a. fault_of a (map string_bytes c.args.words.now)) command.2) kinds) in
    rw left.1 (true_of (map string_bytes c.args.words.now) error left.0 left.2 told)

pub returns-clause-split : goal.returns-clause-split
returns-clause-split c = λ name given plain are.
    let command = c.in_ok-command.ensures in
    let entered = split_words_entered command.0 command.1 name given plain in
    let matches = c.in_ok-found.ensures.matches (ap is_simple command.2 ∙ app_simple command.0) in
    c.in_ok-found_job.ensures.split given entered.0 plain (matches.1 ∙ (ap₂ subcommand_of command.2 are ∙ entered.1)) entered.2

pub returns-clause-count : goal.returns-clause-count
returns-clause-count c = λ name file plain are.
    let command = c.in_ok-command.ensures in
    let matches = c.in_ok-found.ensures.matches (ap is_simple command.2 ∙ app_simple command.0) in
    let counts = c.in_ok-found_job.ensures.count _ (matches.1 ∙ (ap₂ subcommand_of command.2 are ∙ count_words_entered command.0 command.1 name file)) in
    subst (λ (f : Option Word). CountsFile (file_of f) c.in_ok-found_job.field-0) (count_words_hold command.0 command.1 file plain) counts

-- clap returns Ok only if it finds no fault
pub returns-clause-faultless : goal.returns-clause-faultless
returns-clause-faultless c =
    let command = c.in_ok-command.ensures in
    let free = ap is_simple_and_free command.2 ∙ app_free command.0 in
    (command.0, command.1, ap (λ a. fault_of a (map string_bytes c.args.words.now)) (sym command.2) ∙ c.in_ok-found.ensures.kinds free)

-- memory was refused
pub returns-in_err-command-clause-split : goal.returns-in_err-command-clause-split
returns-in_err-command-clause-split c = λ name given plain are. let p = err_from_is_err_and c.from_residual.result c.from_residual.ensures.1 in rw (p.1, p.2) refl

pub returns-in_err-command-clause-count : goal.returns-in_err-command-clause-count
returns-in_err-command-clause-count c = λ name file plain are. let p = err_from_is_err_and c.from_residual.result c.from_residual.ensures.1 in rw (p.1, p.2) refl

pub returns-in_err-found_job-clause-split : goal.returns-in_err-found_job-clause-split
returns-in_err-found_job-clause-split c = λ name given plain are. let p = err_from_is_err_and c.from_residual-in_err-found_job.result c.from_residual-in_err-found_job.ensures.1 in rw (p.1, p.2) refl

pub returns-in_err-found_job-clause-count : goal.returns-in_err-found_job-clause-count
returns-in_err-found_job-clause-count c = λ name file plain are. let p = err_from_is_err_and c.from_residual-in_err-found_job.result c.from_residual-in_err-found_job.ensures.1 in rw (p.1, p.2) refl
