-- The word that clap found for FILE.
use Rattle.std.proofs.Common.{Bool, ◌≡◌, ◌∙◌, ap, codes, false, refl, sym, true, rules, bytes_eq}
use Rattle.std.proofs.lemmas.Slice.Eq.{bytes_eq-Decides}
use Rattle.clap.specs.Matches.{found_of}
use Rattle.clap.proofs.WalkLemmas.{first_value-rows}
use Rattle.sgfsplit_job.specs.PlainWords.{Word, file_of}
use Rattle.sgfsplit_job.proofs.PlainWords.{nothing_given, word_given}
use Rattle.sgfsplit_job.proofs.words.file_given.Goals as goal

-- a word other than `-`
other_word : (word : Word) → ¬ (word ≡ codes "-") → bytes_eq word (codes "-") ≡ false
other_word word other = by (bytes_eq word (codes "-")) refl
  where
    by : (b : Bool) → bytes_eq word (codes "-") ≡ b → b ≡ false
    by true is = absurd (other ((bytes_eq-Decides word (codes "-")).0 is))
    by false is = refl

pub returns-in-None : goal.returns-in-None
returns-in-None c =
    ap file_of (sym (nothing_given _ _ (c.get_str.ensures ∙ first_value-rows (found_of c.args.found.now) (codes "file")) c.in-None.is))

pub returns-in-Some-text : goal.returns-in-Some-text
returns-in-Some-text c = search (rules, word_given, first_value-rows)

pub returns-in_ok-from_str-in-Some : goal.returns-in_ok-from_str-in-Some
returns-in_ok-from_str-in-Some c = search (rules, word_given, first_value-rows, other_word)
