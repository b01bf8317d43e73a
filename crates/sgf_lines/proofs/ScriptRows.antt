-- The rows of a script: the words of each, and what a text of whole rows does to the board, whatever follows it.
use Rattle.sgf_lines.proofs.Common.{slice_split, onto_first, and_parts, cases_eq, common_steps, Line, Point, Vertex, IsOn, column_letters, vertex_of, Colour, Verdict, verdict_text, list_row, Engine, after_row, after_text, before_comment, is_word, words, capital, vertex_named, point_there, point_of, plays_stone, sets_size, size_command, command_of, comment_row, text_rows, colour_letter, vertex_text, Each, each_append, ◌≡◌, ℕ, zero, suc, ◌≤◌, ◌/◌, ◌%◌, List, [], ◌∷◌, ◌++◌, Bool, true, false, codes, refl, ap, ◌∙◌, arith, append_assoc, decimal, cond, ◌==◌, ◌-◌, ◌<◌, filter, Option, Some, None, nat_le, ◌&&◌, slice_index, option_map, option_and_then, inl, inr, ◌+◌, rules, flat_map, position, decimal_digit, decimal_step}
use Rattle.std.specs.Fmt.{digits, digits_onto, digit_glyph}
use Rattle.std.proofs.lemmas.List.Splits.{slice_split_at, slice_split_none}
use Rattle.std.proofs.lemmas.List.Elements.{All-from_recursion}
use Rattle.sgf_properties.specs.Number.{magnitude_of}

-- the byte doesn't end a row
abbrev pub IsWithin : ℕ → Type 0
IsWithin b = (b == 10) ≡ false

-- a text of whole rows takes an engine from one state to another
abbrev pub Carries : Engine → List ℕ → Engine → Type 0
Carries before text after = (rest : List ℕ) → after_text before (text ++ rest) ≡ after_text after rest

pub takes_row : (before : Engine) (line : List ℕ) → Each IsWithin line → Carries before (line ++ (10 ∷ [])) (after_row before line)
takes_row before line h rest = grind (arith, common_steps, All-from_recursion, append_assoc, slice_split_at)

pub takes_nothing : (engine : Engine) → Carries engine [] engine
takes_nothing engine rest = refl

pub takes_both : (a b c : Engine) (t u : List ℕ) → Carries a t b → Carries b u c → Carries a (t ++ u) c
takes_both a b c t u first then rest = ap (λ x. after_text a x) (append_assoc t u rest) ∙ first (u ++ rest) ∙ then rest

-- ---- comments

pub takes_comment : (engine : Engine) (piece : List ℕ) → Each IsWithin piece → Carries engine (comment_row piece) engine
takes_comment engine piece h rest = search (rules, takes_row)

pieces_by : (b : ℕ) (bs : List ℕ) (ends : Bool) → (b == 10) ≡ ends → Each (λ p. Each IsWithin p) (slice_split (λ c. c == 10) bs)
    → Each (λ p. Each IsWithin p) (cond ends ([] ∷ slice_split (λ c. c == 10) bs) (onto_first b (slice_split (λ c. c == 10) bs)))
pieces_by b bs ends known known2 = search rules

pieces_within : (text : List ℕ) → Each (λ p. Each IsWithin p) (slice_split (λ c. c == 10) text)
pieces_within [] = (tt, tt)
pieces_within (b ∷ bs) = pieces_by b bs (b == 10) refl (pieces_within bs)

takes_comments : (engine : Engine) (pieces : List (List ℕ)) → Each (λ p. Each IsWithin p) pieces → Carries engine (flat_map comment_row pieces) engine
takes_comments engine [] h = takes_nothing engine
takes_comments engine (p ∷ ps) h = grind (arith, common_steps, takes_both, takes_comment, takes_comments engine ps h.1)

pub takes_text_rows : (engine : Engine) (text : List ℕ) → Carries engine (text_rows text) engine
takes_text_rows engine [] = takes_nothing engine
takes_text_rows engine (b ∷ bs) = takes_comments engine (slice_split (λ c. c == 10) (b ∷ bs)) (pieces_within (b ∷ bs))

-- ---- the row

-- a digit or a letter: no white space and no `#`
abbrev pub IsSolid : ℕ → Type 0
IsSolid b = 48 ≤ b

glyph_solid : (d : ℕ) → IsSolid (digit_glyph false d)
glyph_solid d = grind (arith)

digits_solid : (fuel n : ℕ) (after : List ℕ) → Each IsSolid after → Each IsSolid (digits_onto fuel 10 false n after)
digits_solid zero n after h = h
digits_solid (suc fuel) n after h = grind (arith, common_steps, glyph_solid, digits_solid fuel (n / 10) (digit_glyph false (n % 10) ∷ after) ((glyph_solid (n % 10), h)))

pub decimal_solid : (n : ℕ) → Each IsSolid (decimal n)
unfolding digits
decimal_solid n = digits_solid 64 n [] tt

pub solid_within : (bs : List ℕ) → Each IsSolid bs → Each IsWithin bs
solid_within [] h = tt
solid_within (b ∷ bs) h = (grind (arith, h.0), solid_within bs h.1)

pub decimal_within : (n : ℕ) → Each IsWithin (decimal n)
decimal_within n = solid_within (decimal n) (decimal_solid n)

pub within_both : (xs ys : List ℕ) → Each IsWithin xs → Each IsWithin ys → Each IsWithin (xs ++ ys)
within_both xs ys h k = each_append IsWithin xs ys h k

verdict_within : (v : Verdict) → Each IsWithin (verdict_text v)
verdict_within v = search (rules, decimal_within, within_both)

pub row_within : (line : Line) → Each IsWithin (list_row line)
row_within line = search (within_both, decimal_within, verdict_within) depth 12

-- ---- a fact of each number below a small one, by trying all

all_below : (ℕ → Bool) → ℕ → Bool
all_below p zero = true
all_below p (suc n) = p n && all_below p n

below_each : (p : ℕ → Bool) (n k : ℕ) → all_below p n ≡ true → k < n → p k ≡ true
unfolding all_below
below_each p zero k e lt = absurd (omega arith)
below_each p (suc n) k e lt =
    let h = and_parts (p n) (all_below p n) e in
    elim (cases_eq k n) [ inl same ↦ rw same h.0 | inr other ↦ below_each p n k h.1 (omega arith) ]

is_some : Option ℕ → ℕ → Bool
is_some None n = false
is_some (Some m) n = m == n

some_from : (o : Option ℕ) (n : ℕ) → is_some o n ≡ true → o ≡ Some n
unfolding is_some
some_from o n known = search rules

-- ---- the letter of a column and the number of a row

-- a column's letter is a capital behind `/`, and names the column
letter_reads : ℕ → Bool
letter_reads col =
    let letter = slice_index column_letters col in
    nat_le 48 letter && (capital letter == letter && is_some (position (λ l. l == letter) column_letters) col)

solid_by : (b : ℕ) → nat_le 48 b ≡ true → IsSolid b
solid_by b h = grind (arith, h)

same_by : (a b : ℕ) → (a == b) ≡ true → a ≡ b
same_by a b h = grind (arith, h)

record IsLetter (col : ℕ) : Type 0 where
  solid : IsSolid (slice_index column_letters col)
  upper : capital (slice_index column_letters col) ≡ slice_index column_letters col
  names : position (λ l. l == slice_index column_letters col) column_letters ≡ Some col

letter_is : (col : ℕ) → col < 25 → IsLetter col
unfolding letter_reads all_below is_some
letter_is col lt =
    let letter = slice_index column_letters col in
    let named = is_some (position (λ l. l == letter) column_letters) col in
    let h = and_parts (nat_le 48 letter) (capital letter == letter && named) (below_each letter_reads 25 col refl lt) in
    let k = and_parts (capital letter == letter) named h.1 in
    search (rules, slice_index, is_some, and_parts, nat_le, below_each, letter_reads, solid_by, same_by, some_from)

row_reads : ℕ → Bool
row_reads n = is_some (magnitude_of (decimal n)) n

row_names : (n : ℕ) → n < 26 → magnitude_of (decimal n) ≡ Some n
unfolding row_reads all_below is_some digits
row_names n lt = some_from (magnitude_of (decimal n)) n (below_each row_reads 26 n refl lt)

point_back : (side : ℕ) (p : Point) → IsOn side p → point_there side p.col (side - p.row) ≡ Some p
point_back side p on = search rules

-- the vertex of a point names it
pub point_names : (side : ℕ) (p : Point) → side ≤ 25 → IsOn side p → point_of side (vertex_of p side) ≡ Some p
unfolding vertex_of
point_names side p small on = grind (arith, common_steps, letter_is, option_and_then, point_back)

-- and is read from its text
vertex_reads : (side : ℕ) (p : Point) → side ≤ 25 → IsOn side p → vertex_named (vertex_text (vertex_of p side)) ≡ Some (vertex_of p side)
unfolding vertex_of
vertex_reads side p small on = grind (arith, common_steps, letter_is, option_map, row_names, slice_index)

-- ---- a play's words

no_spaces : (bs : List ℕ) → Each IsSolid bs → Each (λ b. (b == 32) ≡ false) bs
no_spaces [] h = tt
no_spaces (b ∷ bs) h = search (rules, (no_spaces bs h.1))

no_comment : (bs : List ℕ) → Each IsSolid bs → before_comment bs ≡ bs
no_comment [] h = refl
no_comment (b ∷ bs) h = search (rules, (no_comment bs h.1))

pub one_word : (bs : List ℕ) → Each IsSolid bs → slice_split (λ b. b == 32) (before_comment bs) ≡ bs ∷ []
one_word bs h = grind (arith, common_steps, All-from_recursion, no_comment, no_spaces, slice_split_none)

play_words : (k : Colour) (b : ℕ) (bs : List ℕ) → Each IsSolid (b ∷ bs)
    → words (codes "play " ++ colour_letter k ++ codes " " ++ (b ∷ bs)) ≡ codes "play" ∷ colour_letter k ∷ (b ∷ bs) ∷ []
play_words k b bs known = grind (arith, common_steps, one_word)

pub vertex_solid : (side : ℕ) (p : Point) → side ≤ 25 → IsOn side p → Each IsSolid (vertex_text (vertex_of p side))
unfolding vertex_of
vertex_solid side p small on = search (rules, decimal_solid, letter_is)

pub play_reads : (side : ℕ) (k : Colour) (p : Point) → side ≤ 25 → IsOn side p
    → command_of (words (codes "play " ++ colour_letter k ++ codes " " ++ vertex_text (vertex_of p side))) ≡ plays_stone k (vertex_of p side)
play_reads side k p small on = grind (arith, common_steps, play_words, vertex_solid, vertex_reads)

-- the row that sets a size
two_words : (word : List ℕ) → filter is_word (word ∷ []) ≡ word ∷ [] → command_of (codes "boardsize" ∷ filter is_word (word ∷ [])) ≡ size_command (magnitude_of word)
two_words word e = ap (λ ws. command_of (codes "boardsize" ∷ ws)) e

decimal_is_word : (n : ℕ) → n < 26 → filter is_word (decimal n ∷ []) ≡ decimal n ∷ []
unfolding digits
decimal_is_word n lt = only (decimal n) (row_names n lt) where
  only : (ds : List ℕ) → magnitude_of ds ≡ Some n → filter is_word (ds ∷ []) ≡ ds ∷ []
  only [] e = absurd cc
  only (d ∷ ds) e = refl

pub size_reads : (side : ℕ) → side ≤ 25 → command_of (words (codes "boardsize " ++ decimal side)) ≡ sets_size side
size_reads side small =
    ap (λ ls. command_of (codes "boardsize" ∷ filter is_word ls)) (one_word (decimal side) (decimal_solid side))
    ∙ two_words (decimal side) (decimal_is_word side (omega arith))
    ∙ ap size_command (row_names side (omega arith))

-- the command for a stone by its vertex
abbrev pub stone_command : Colour → Vertex → List ℕ
stone_command colour vertex = codes "play " ++ colour_letter colour ++ codes " " ++ vertex_text vertex ++ codes "\n"

laid_out : (k : Colour) (v : Vertex) (b : ℕ) (row : List ℕ) → colour_letter k ≡ b ∷ [] → decimal v.row ≡ row
    → stone_command k v ≡ 112 ∷ 108 ∷ 97 ∷ 121 ∷ 32 ∷ b ∷ 32 ∷ v.letter ∷ (row ++ codes "\n")
laid_out k v b row player digits = search rules

pub command-one_digit : (k : Colour) (v : Vertex) (b : ℕ) → colour_letter k ≡ b ∷ [] → v.row < 10
    → stone_command k v ≡ 112 ∷ 108 ∷ 97 ∷ 121 ∷ 32 ∷ b ∷ 32 ∷ v.letter ∷ (48 + v.row % 10) ∷ 10 ∷ []
command-one_digit k v b player lt = search (rules, laid_out, decimal_digit)

pub command-two_digits : (k : Colour) (v : Vertex) (b : ℕ) → colour_letter k ≡ b ∷ [] → 10 ≤ v.row → v.row < 100
    → stone_command k v ≡ 112 ∷ 108 ∷ 97 ∷ 121 ∷ 32 ∷ b ∷ 32 ∷ v.letter ∷ (48 + v.row / 10) ∷ (48 + v.row % 10) ∷ 10 ∷ []
command-two_digits k v b player le lt = search (rules, laid_out, decimal_step, decimal_digit)

-- a row has two digits at most
pub row-below : (p : Point) (side : ℕ) → side ≤ 25 → (vertex_of p side).row < 100
unfolding vertex_of
row-below p side small = omega (arith, small)
