-- How clap reads the words that ask for a job.
use Rattle.std.proofs.Common.{Bool, ◌≡◌, true, List, [], ◌∷◌, ◌++◌, codes, refl, false, ◌&&◌, Option, Some, None, ap, sym, rules, unwrap_or, find, fold, IfSome, bytes_eq, arith}
use Rattle.std.proofs.lemmas.Grind.{common_steps}
use Rattle.std.proofs.Math.Bool.{and-false}
use Rattle.std.proofs.lemmas.Bool.{and_from}
use Rattle.std.specs.List.{list_any, list_all}
use Rattle.clap.specs.Faults.{is_simple_and_free}
use Rattle.clap.specs.Takes.{takes, walk_passes, settle_passes, level_passes, default_passes, is_valid}
use Rattle.clap.specs.Walk.{Held, Names, Row, Rule, Text, Walk, walk, walked, idle, settled_rows, finished, nothing_held, answers_to, first_of, walk_from, rows_after}
use Rattle.clap.specs.Simple.{Shape, is_simple, built, entered, label_of, names_of as subcommands, new_shape, subcommand_of}
use Rattle.clap.specs.Values.{same_text}
use Rattle.clap.specs.Lexer.{long_of, short_of}
use Rattle.clap.specs.ValueTests.{is_unsigned_in}
use Rattle.clap.proofs.OnLiterals.{clap_on_literals}
use Rattle.clap.proofs.WalkLemmas.{walk_stopped}
use Rattle.sgfsplit_job.specs.CommandLine.{FormNames, program_app}
use Rattle.sgfsplit_job.specs.PlainWords.{option_words, file_words}

-- ---- which values clap accepts

pub app_simple : (names : FormNames) → is_simple (program_app names) ≡ true
unfolding clap_on_literals
app_simple names = refl

-- the command is simple and free; of such a command clap's contracts tell the faults
pub app_free : (names : FormNames) → is_simple_and_free (program_app names) ≡ true
unfolding clap_on_literals
app_free names = refl

abbrev pub accepts_form : FormNames → Text → Bool
accepts_form names word = list_any (λ name. same_text false name.now word) names.now

abbrev pub accepts_number : Text → Bool
accepts_number word = is_unsigned_in 0 18446744073709551615 word

-- clap doesn't take the word for an option
pub record IsNoOption (w : Text) : Type 0 where
  pub two : bytes_eq w (45 ∷ 45 ∷ []) ≡ false
  pub long : long_of w ≡ None
  pub short : short_of w ≡ None

-- ---- the command as clap builds it

abbrev pub sub_shape : FormNames → Text → Shape
sub_shape names word = unwrap_or (find (λ s. answers_to word (label_of s)) (built (program_app names)).subs) (new_shape [])

abbrev pub split_shape : FormNames → Shape
split_shape names = sub_shape names (codes "split")

abbrev pub count_shape : FormNames → Shape
count_shape names = sub_shape names (codes "count")

abbrev pub split_rules : FormNames → List Rule
split_rules names = (split_shape names).rules

-- ---- the options of `split`, one after another

abbrev pub Pending : Type 0
Pending = Option (Text × List Text)

abbrev pub held : List Row → Pending → Held
held rows pending = record { rows = rows; pending = pending; skip = 0 }

-- clap's walk over the words, between two options
abbrev pub between : List Row → Pending → Walk
between rows pending =
    record { held = held rows pending; waiting = idle; position = 1; is_trailing = false; stopped = None }

module _ (names : FormNames) where
  abbrev pub walked_on : Walk → List Text → Walk
  walked_on w words = fold (walked (split_rules names) []) w words

  abbrev pub passes_on : Walk → List Text → Bool
  passes_on w words = walk_passes (split_shape names) [] w words

  abbrev pub settles : List Row → Pending → Type 0
  settles rows p = settle_passes (split_rules names) false (held rows p) ≡ true

  -- the rows, and then what is pending, after an option; both are unchanged if the option isn't given
  abbrev pub rows_with : Option Text → List Row → Pending → List Row
  rows_with None rows p = rows
  rows_with (Some v) rows p = settled_rows (split_rules names) p rows

  abbrev pub pending_with : Text → Option Text → Pending → Pending
  pending_with id None p = p
  pending_with id (Some v) p = Some (id, v ∷ [])

  form_walked : (v : Option Text) → IfSome v IsNoOption → (rows : List Row) (p : Pending) (rest : List Text)
      → walked_on (between rows p) (option_words (codes "--form") v ++ rest)
      ≡ walked_on (between (rows_with v rows p) (pending_with (codes "form") v p)) rest
  unfolding clap_on_literals
  form_walked None n rows p rest = refl
  form_walked (Some v) n rows p rest = rw (n.two, n.long, n.short) refl

  after_walked : (v : Option Text) → IfSome v IsNoOption → (rows : List Row) (p : Pending) (rest : List Text)
      → walked_on (between rows p) (option_words (codes "--after") v ++ rest)
      ≡ walked_on (between (rows_with v rows p) (pending_with (codes "after") v p)) rest
  unfolding clap_on_literals
  after_walked None n rows p rest = refl
  after_walked (Some v) n rows p rest = rw (n.two, n.long, n.short) refl

  limit_walked : (v : Option Text) → IfSome v IsNoOption → (rows : List Row) (p : Pending) (rest : List Text)
      → walked_on (between rows p) (option_words (codes "--limit") v ++ rest)
      ≡ walked_on (between (rows_with v rows p) (pending_with (codes "limit") v p)) rest
  unfolding clap_on_literals
  limit_walked None n rows p rest = refl
  limit_walked (Some v) n rows p rest = rw (n.two, n.long, n.short) refl

  form_passes : (v : Option Text) → IfSome v IsNoOption → (rows : List Row) (p : Pending) (rest : List Text) → settles rows p
      → passes_on (between rows p) (option_words (codes "--form") v ++ rest)
      ≡ passes_on (between (rows_with v rows p) (pending_with (codes "form") v p)) rest
  unfolding clap_on_literals
  form_passes None n rows p rest ok = refl
  form_passes (Some v) n rows p rest ok = rw (ok, n.two, n.long, n.short) refl

  after_passes : (v : Option Text) → IfSome v IsNoOption → (rows : List Row) (p : Pending) (rest : List Text) → settles rows p
      → passes_on (between rows p) (option_words (codes "--after") v ++ rest)
      ≡ passes_on (between (rows_with v rows p) (pending_with (codes "after") v p)) rest
  unfolding clap_on_literals
  after_passes None n rows p rest ok = refl
  after_passes (Some v) n rows p rest ok = rw (ok, n.two, n.long, n.short) refl

  limit_passes : (v : Option Text) → IfSome v IsNoOption → (rows : List Row) (p : Pending) (rest : List Text) → settles rows p
      → passes_on (between rows p) (option_words (codes "--limit") v ++ rest)
      ≡ passes_on (between (rows_with v rows p) (pending_with (codes "limit") v p)) rest
  unfolding clap_on_literals
  limit_passes None n rows p rest ok = refl
  limit_passes (Some v) n rows p rest ok = rw (ok, n.two, n.long, n.short) refl

  file_held : (v : Option Text) → IfSome v IsNoOption → (rows : List Row) (p : Pending)
      → (walked_on (between rows p) (file_words v)).held ≡ held (rows_with v rows p) (pending_with (codes "file") v p)
  unfolding clap_on_literals
  file_held v n rows p = grind (arith, common_steps, and-false)

  file_passes : (v : Option Text) → IfSome v IsNoOption → (rows : List Row) (p : Pending) → settles rows p
      → passes_on (between rows p) (file_words v) ≡ true
  unfolding clap_on_literals
  file_passes None n rows p ok = refl
  file_passes (Some v) n rows p ok = rw (n.two, n.long, n.short, and-false, ok) refl

-- ---- each level of the parse

-- the words after `split`
abbrev pub words_after : Option Text → Option Text → Option Text → Option Text → List Text
words_after form after limit file =
    option_words (codes "--form") form ++ (option_words (codes "--after") after ++ (option_words (codes "--limit") limit ++ file_words file))

module _ (names : FormNames) where
  abbrev pub rows_1 : Option Text → List Row
  rows_1 form = rows_with names form [] None

  abbrev pub pending_1 : Option Text → Pending
  pending_1 form = pending_with names (codes "form") form None

  abbrev pub rows_2 : Option Text → Option Text → List Row
  rows_2 form after = rows_with names after (rows_1 form) (pending_1 form)

  abbrev pub pending_2 : Option Text → Option Text → Pending
  pending_2 form after = pending_with names (codes "after") after (pending_1 form)

  abbrev pub rows_3 : Option Text → Option Text → Option Text → List Row
  rows_3 form after limit = rows_with names limit (rows_2 form after) (pending_2 form after)

  abbrev pub pending_3 : Option Text → Option Text → Option Text → Pending
  pending_3 form after limit = pending_with names (codes "limit") limit (pending_2 form after)

  abbrev pub rows_4 : Option Text → Option Text → Option Text → Option Text → List Row
  rows_4 form after limit file = rows_with names file (rows_3 form after limit) (pending_3 form after limit)

  abbrev pub pending_4 : Option Text → Option Text → Option Text → Option Text → Pending
  pending_4 form after limit file = pending_with names (codes "file") file (pending_3 form after limit)

  abbrev pub end_rows : Option Text → Option Text → Option Text → Option Text → List Row
  end_rows form after limit file = finished (split_rules names) (held (rows_4 form after limit file) (pending_4 form after limit file))

  settles_1 : (form : Option Text) → IfSome form (λ v. accepts_form names v ≡ true) → settles names (rows_1 form) (pending_1 form)
  settles_1 None f = refl
  settles_1 (Some v) f = rw f refl

  settles_2 : (form after : Option Text) → IfSome form (λ v. accepts_form names v ≡ true) → IfSome after (λ v. accepts_number v ≡ true) → settles names (rows_2 form after) (pending_2 form after)
  settles_2 form after f a = grind (arith, common_steps, settles_1)

  settles_3 : (form after limit : Option Text) → IfSome form (λ v. accepts_form names v ≡ true) → IfSome after (λ v. accepts_number v ≡ true) → IfSome limit (λ v. accepts_number v ≡ true)
      → settles names (rows_3 form after limit) (pending_3 form after limit)
  settles_3 form after limit f a l = grind (arith, common_steps, settles_2)

  settles_4 : (form after limit file : Option Text) → IfSome form (λ v. accepts_form names v ≡ true) → IfSome after (λ v. accepts_number v ≡ true) → IfSome limit (λ v. accepts_number v ≡ true)
      → settles names (rows_4 form after limit file) (pending_4 form after limit file)
  settles_4 form after limit file f a l = grind (arith, common_steps, settles_3)

-- the words after `split` are accepted
pub record AreAccepted (names : FormNames) (form after limit file : Option Text) : Type 0 where
  pub list : accepts_form names (codes "list") ≡ true
  pub form_accepted : IfSome form (λ v. accepts_form names v ≡ true)
  pub after_accepted : IfSome after (λ v. accepts_number v ≡ true)
  pub limit_accepted : IfSome limit (λ v. accepts_number v ≡ true)
  pub form_plain : IfSome form IsNoOption
  pub after_plain : IfSome after IsNoOption
  pub limit_plain : IfSome limit IsNoOption
  pub file_plain : IfSome file IsNoOption

module _ (names : FormNames) (form after limit file : Option Text) (a : AreAccepted names form after limit file) where
  abbrev pub end_held : Held
  end_held = held (rows_4 names form after limit file) (pending_4 names form after limit file)

  split_walk : (walk (split_rules names) [] nothing_held (words_after form after limit file)).held ≡ end_held
  split_walk = search (rules, held, form_walked, after_walked, rows_1, pending_1, limit_walked, rows_2, pending_2, file_held, rows_3, pending_3)

  split_passes : walk_passes (split_shape names) [] (walk_from nothing_held) (words_after form after limit file) ≡ true
  split_passes =
      search (rules, form_passes, after_passes, rows_1, pending_1, settles_1, limit_passes, rows_2, pending_2, settles_2, file_passes, rows_3, pending_3, settles_3)

  defaults_pass : (h : Held) → (list_all default_passes (split_rules names) && is_valid (split_shape names) (finished (split_rules names) h) false) ≡ true
  unfolding clap_on_literals
  defaults_pass h = let list = a.list in rw list refl

  pub split_level : level_passes (split_shape names) [] nothing_held (words_after form after limit file) false ≡ true
  split_level = search (rules, and_from, split_passes, split_rules, split_walk, settles_4, defaults_pass, words_after, held)

-- ---- `count`

module _ (names : FormNames) where
  abbrev pub count_rules : List Rule
  count_rules = (count_shape names).rules

  pub count_level : (file : Option Text) → IfSome file IsNoOption → level_passes (count_shape names) [] nothing_held (file_words file) false ≡ true
  unfolding clap_on_literals
  count_level file n = grind (arith, common_steps)

  pub count_row : (file : Option Text) → IfSome file IsNoOption → first_of (codes "file") (rows_after count_rules [] (file_words file)) ≡ file
  unfolding clap_on_literals
  count_row file n = grind (arith, common_steps)

-- ---- the whole command line

stopped_passes : (s : Shape) (subs : Names) (w : Walk) (p : Text × List Text) (words : List Text) → walk_passes s subs (record w { stopped = Some p }) words ≡ true
unfolding walked walk_passes
stopped_passes s subs w p [] = refl
stopped_passes s subs w p (x ∷ xs) = stopped_passes s subs w (p.0, p.1 ++ x ∷ []) xs

module _ (names : FormNames) where
  abbrev pub top : Shape
  top = (built (program_app names)).top

  abbrev pub subs : Names
  subs = subcommands (built (program_app names))

  abbrev pub met : Text → List Text → Walk
  met word rest = record (walk_from nothing_held) { stopped = Some (word, rest) }

  split_met : (rest : List Text) → walk top.rules subs nothing_held (codes "split" ∷ rest) ≡ met (codes "split") rest
  unfolding clap_on_literals
  split_met rest = sym (walk_stopped top.rules subs (walk_from nothing_held) (codes "split") [] rest)

  split_met_passes : (rest : List Text) → walk_passes top subs (walk_from nothing_held) (codes "split" ∷ rest) ≡ true
  unfolding clap_on_literals
  split_met_passes rest = stopped_passes top subs (walk_from nothing_held) (codes "split", []) rest

  pub split_taken : (name : Text) (rest : List Text) → level_passes (split_shape names) [] nothing_held rest false ≡ true
      → takes (program_app names) (name ∷ codes "split" ∷ rest) ≡ true
  unfolding clap_on_literals
  split_taken name rest level = grind (arith, common_steps, split_met, and_from, split_met_passes)

  pub split_entered : (name : Text) (rest : List Text) → subcommand_of (program_app names) (name ∷ codes "split" ∷ rest) ≡ Some (codes "split", rows_after (split_rules names) [] rest)
  unfolding clap_on_literals
  split_entered name rest = ap (λ (w : Walk). entered (built (program_app names)) w.stopped) (split_met rest)

  count_met : (rest : List Text) → walk top.rules subs nothing_held (codes "count" ∷ rest) ≡ met (codes "count") rest
  unfolding clap_on_literals
  count_met rest = sym (walk_stopped top.rules subs (walk_from nothing_held) (codes "count") [] rest)

  count_met_passes : (rest : List Text) → walk_passes top subs (walk_from nothing_held) (codes "count" ∷ rest) ≡ true
  unfolding clap_on_literals
  count_met_passes rest = stopped_passes top subs (walk_from nothing_held) (codes "count", []) rest

  pub count_taken : (name : Text) (rest : List Text) → level_passes (count_shape names) [] nothing_held rest false ≡ true
      → takes (program_app names) (name ∷ codes "count" ∷ rest) ≡ true
  unfolding clap_on_literals
  count_taken name rest level = grind (arith, common_steps, count_met, and_from, count_met_passes)

  pub count_entered : (name : Text) (rest : List Text) → subcommand_of (program_app names) (name ∷ codes "count" ∷ rest) ≡ Some (codes "count", rows_after (count_rules names) [] rest)
  unfolding clap_on_literals
  count_entered name rest = ap (λ (w : Walk). entered (built (program_app names)) w.stopped) (count_met rest)

-- what clap finds for the options of `split`
module _ (names : FormNames) (form after limit file : Option Text) (a : AreAccepted names form after limit file) where
  pub split_rows_are : rows_after (split_rules names) [] (words_after form after limit file) ≡ end_rows names form after limit file
  split_rows_are = ap (finished (split_rules names)) (split_walk names form after limit file a)
