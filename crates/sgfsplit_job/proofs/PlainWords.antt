-- How clap reads plain words, and what that says of the job.
use Rattle.std.proofs.Common.{◌≡◌, ◌∙◌, ◌<◌, ◌≤◌, ◌^◌, ◌==◌, ℕ, true, false, List, [], ◌∷◌, map, refl, sym, ap, arith, codes, Option, Some, None, Result, Ok, rules, IfSome, option_map, Box, Bor, ne_eqb, box_value}
use Rattle.std.proofs.lemmas.Grind.{common_steps}
use Rattle.std.specs.List.{list_any}
use Rattle.std.specs.Str.Parse.{IsNumeral, ParsesUnsigned, digits_value, without_leading_plus}
use Rattle.std.proofs.lemmas.Str.Parse.{digit_from_value, numerals_by_value, tells_digits, digits_value_short}
use Rattle.clap.specs.Matches.{ReadsOne, subcommand_name_of}
use Rattle.clap.specs.Takes.{takes}
use Rattle.clap.specs.Simple.{subcommand_of, subcommand_rows, subcommand_rows_of}
use Rattle.clap.specs.declared.parser.matches.ArgMatches.{ArgMatches}
use Rattle.clap.specs.declared.parser.matches.ArgMatches.TheViews.{out-ArgMatches, out-SubCommand}
use Rattle.clap.specs.declared.parser.matches.SubCommand.{SubCommand}
use Rattle.clap.specs.Walk.{Row, first_of, rows_after}
use Rattle.clap.specs.Values.{same_text}
use Rattle.clap.specs.declared.builder.value_parser.ValueParser.TheVariants.{Unsigned}
use Rattle.clap.proofs.ValueTestLemmas.{Accepts-accepts}
use Rattle.sgf_lines.specs.declared.options.Form.{Form}
use Rattle.sgf_lines.specs.declared.options.Form.TheVariants as form
use Rattle.sgfsplit_job.specs.CommandLine.{FormNames, form_names, names_of, program_app}
use Rattle.sgfsplit_job.specs.PlainWords.{ArePlainWords, IsFileWord, IsNameWord, IsNumberWord, SplitWords, Word, count_words, file_words, split_words, hyphen}
use Rattle.sgf_lines.specs.Form.{form_word}
use Rattle.sgfsplit_job.specs.inner.Found.{HoldSplitWords, rows_found}
use Rattle.sgfsplit_job.proofs.CommandLine.{AreAccepted, IsNoOption, accepts_form, accepts_number, count_entered, count_level, count_row, count_rules, count_taken, end_rows, split_entered, split_level, split_rows_are, split_rules, split_taken, words_after}

-- ---- names

two_is_none : (xs : List ℕ) (x : ℕ) → (x == hyphen) ≡ false → IsNoOption (x ∷ xs)
two_is_none xs x e = record { two = rw e refl; long = rw e refl; short = rw e refl }

pub name_plain : (word : Word) → IsNameWord word → IsNoOption word
name_plain word h = grind (arith, common_steps, two_is_none, ne_eqb)

pub file_plain : (word : Word) → IsFileWord word → IsNoOption word
file_plain word known1 = grind (arith, common_steps, name_plain)

pub form_plain : (f : Form) → IsNoOption (form_word f)
form_plain f = grind (arith, common_steps)

-- ---- forms

accepted_as : (names : List (Bor (List ℕ))) (word : Word) → list_any (λ name. same_text false name.now word) names ≡ list_any (λ name. same_text false name word) (map (λ name. name.now) names)
accepted_as [] word = refl
accepted_as (x ∷ xs) word = rw (accepted_as xs word) refl

pub form_accepted : (names : FormNames) → names_of names ≡ form_names → (f : Form) → accepts_form names (form_word f) ≡ true
form_accepted names e f = grind (arith, common_steps, accepted_as)

-- ---- numbers

pub no_plus : (word : Word) → IsNumberWord word → without_leading_plus word ≡ word
no_plus word h = grind (arith, common_steps, ne_eqb, digit_from_value)

pub number_small : (word : Word) → IsNumberWord word → digits_value 10 word < 10 ^ 18
number_small word h = digits_value_short (numerals_by_value _ tells_digits) word 18 h.2 h.1

pub number_accepted : (word : Word) → IsNumberWord word → accepts_number word ≡ true
number_accepted word h =
    let same = no_plus word h in
    let small = number_small word h in
    let numeral : IsNumeral 10 (without_leading_plus word) = rw same (h.0, h.2) in
    let fits : digits_value 10 (without_leading_plus word) < 2 ^ 64 = rw same (omega arith) in
    let most : digits_value 10 (without_leading_plus word) ≤ 18446744073709551615 = rw same (omega arith) in
    Accepts-accepts false (Unsigned 0 18446744073709551615) word (numeral, fits, omega arith, most)

pub number_plain : (word : Word) → IsNumberWord word → IsNoOption word
number_plain [] h = absurd (omega (arith, h.0))
number_plain (d ∷ ds) h = two_is_none ds d (ne_eqb _ _ (λ e. omega (arith, digit_from_value d h.2.0)))

-- for a number word `get_one` returns the number
number_read : (E : Type 0) (G : List ℕ → Result ℕ E → Type 0) (word : Word) (r : Option ℕ) → ReadsOne G word r
    → ((u : List ℕ) (x : Result ℕ E) → G u x → ParsesUnsigned 64 10 u x) → IsNumberWord word → r ≡ Some (digits_value 10 word)
number_read E G word (Some v) read only h =
    let parsed = only word (Ok v) read in
    ap Some (parsed.1 ∙ ap (digits_value 10) (no_plus word h))
number_read E G word None read only h = search (rules, no_plus, number_small)

-- and None if no word is given
pub number_given : (E : Type 0) (G : List ℕ → Result ℕ E → Type 0) (found given : Option Word) (r : Option ℕ) → found ≡ given → (found ≡ None → r ≡ None)
    → ((word : Word) → found ≡ Some word → ReadsOne G word r) → ((u : List ℕ) (x : Result ℕ E) → G u x → ParsesUnsigned 64 10 u x)
    → IfSome given IsNumberWord → r ≡ option_map (digits_value 10) given
number_given E G found None r is none read only h = none is
number_given E G found (Some word) r is none read only h = number_read E G word r (read word is) only h

-- ---- whole command lines

some_mapped : (f : Option Form) (P : Word → Type 0) → ((g : Form) → P (form_word g)) → IfSome (option_map form_word f) P
some_mapped f P h = grind (arith, common_steps)

each_some : (w : Option Word) (P Q : Word → Type 0) → ((x : Word) → P x → Q x) → IfSome w P → IfSome w Q
each_some w P Q f h = grind (arith, common_steps)

-- what is found for each argument
rows_hold : (names : FormNames) (form : Option Form) (after limit file : Option Word)
    → HoldSplitWords (record { form = form; after = after; limit = limit; file = file }) (end_rows names (option_map form_word form) after limit file)
rows_hold names form after limit file = grind (arith, common_steps)

module _ (names : FormNames) (are : names_of names ≡ form_names) where
  abbrev after_split : SplitWords → List Word
  after_split given = words_after (option_map form_word given.form) given.after given.limit given.file

  accepted : (given : SplitWords) → ArePlainWords given → AreAccepted names (option_map form_word given.form) given.after given.limit given.file
  accepted given plain = record {
    list = form_accepted names are form.List;
    form_accepted = some_mapped given.form (λ v. accepts_form names v ≡ true) (form_accepted names are);
    after_accepted = each_some given.after IsNumberWord (λ v. accepts_number v ≡ true) number_accepted plain.after;
    limit_accepted = each_some given.limit IsNumberWord (λ v. accepts_number v ≡ true) number_accepted plain.limit;
    form_plain = some_mapped given.form IsNoOption form_plain;
    after_plain = each_some given.after IsNumberWord IsNoOption number_plain plain.after;
    limit_plain = each_some given.limit IsNumberWord IsNoOption number_plain plain.limit;
    file_plain = each_some given.file IsFileWord IsNoOption file_plain plain.file;
  }

  pub split_words_taken : (name : Word) (given : SplitWords) → ArePlainWords given → takes (program_app names) (split_words name given) ≡ true
  split_words_taken name given plain =
      split_taken names name (after_split given)
      (split_level names (option_map form_word given.form) given.after given.limit given.file (accepted given plain))

  pub split_words_entered : (name : Word) (given : SplitWords) → ArePlainWords given
      → (rows : List Row) × (subcommand_of (program_app names) (split_words name given) ≡ Some (codes "split", rows)) × HoldSplitWords given rows
  split_words_entered name given plain =
      let all = split_rows_are names (option_map form_word given.form) given.after given.limit given.file (accepted given plain) in
      (rows_after (split_rules names) [] (after_split given), split_entered names name (after_split given), rw all (rows_hold names given.form given.after given.limit given.file))

  pub count_words_taken : (name : Word) (file : Option Word) → IfSome file IsFileWord → takes (program_app names) (count_words name file) ≡ true
  count_words_taken name file plain =
      count_taken names name (file_words file) (count_level names file (each_some file IsFileWord IsNoOption file_plain plain))

  pub count_words_entered : (name : Word) (file : Option Word)
      → subcommand_of (program_app names) (count_words name file) ≡ Some (codes "count", rows_after (count_rules names) [] (file_words file))
  count_words_entered name file = count_entered names name (file_words file)

  pub count_words_hold : (file : Option Word) → IfSome file IsFileWord → first_of (codes "file") (rows_after (count_rules names) [] (file_words file)) ≡ file
  count_words_hold file plain = count_row names file (each_some file IsFileWord IsNoOption file_plain plain)

-- ---- what a getter returned

-- the text that a getter returned is this word
pub given_word : (o : Option (Bor (List ℕ))) (x : Bor (List ℕ)) (w : Word) → option_map (λ s. s.now) o ≡ Some w → o ≡ Some x → x.now ≡ w
given_word o x w e is = grind (arith, common_steps)

pub nothing_given : (o : Option (Bor (List ℕ))) (w : Option Word) → option_map (λ s. s.now) o ≡ w → o ≡ None → w ≡ None
nothing_given o w e is = grind (arith, common_steps)

pub word_given : (o : Option (Bor (List ℕ))) (w : Option Word) (x : Bor (List ℕ)) → option_map (λ s. s.now) o ≡ w → o ≡ Some x → w ≡ Some x.now
word_given o w x e is = sym e ∙ ap (option_map (λ s. s.now)) is

-- ---- the subcommand that was entered

names_are : {Z : Type 0} (o : Option (Box SubCommand Z)) → option_map (λ b. (out-SubCommand (box_value b)).name.now) o ≡ option_map (λ p. p.0) (subcommand_rows o)
names_are o = grind (arith, common_steps)

pub entered_name : (m : ArgMatches) (name : Word) (rows : List Row) → subcommand_rows_of m ≡ Some (name, rows) → subcommand_name_of m ≡ Some name
entered_name m name rows e = names_are (out-ArgMatches m).subcommand ∙ ap (option_map (λ (p : Word × List Row). p.0)) e

pub same_rows : (o : Option (Bor Word × Bor ArgMatches)) (s : Option (Word × List Row)) (p : Bor Word × Bor ArgMatches) (q : Word × List Row)
    → option_map (λ p. rows_found p.1.now) o ≡ option_map (λ p. p.1) s → o ≡ Some p → s ≡ Some q → q.1 ≡ rows_found p.1.now
same_rows o s p q e is sub = grind (arith, common_steps)

pub same_name : (o : Option (Bor Word × Bor ArgMatches)) (name : Option Word) (p : Bor Word × Bor ArgMatches) (w : Word)
    → option_map (λ p. p.0.now) o ≡ name → o ≡ Some p → name ≡ Some w → p.0.now ≡ w
same_name o name p w e is sub = grind (arith, common_steps)
