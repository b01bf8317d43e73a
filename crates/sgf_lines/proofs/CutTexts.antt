-- A text that is cut where a test passes, by the first byte where it does.
use Rattle.sgf_lines.proofs.Common.{slice_split, drop-append_seam, false_from_ne_true, common_steps, Point, points, Colour, stone_of, same_cell, Grid, cell_at, Stone, text_rows, comment_row, play_command, stone_commands, commands_at, ◌≡◌, ℕ, ◌<◌, ◌+◌, ◌-◌, ◌++◌, Option, Some, Bool, true, false, List, [], ◌∷◌, zero, suc, length, take, drop, get_or, refl, sym, arith, length-append, rules, append_assoc, Result, ◌==◌, is_some, filter, OnOk, flat_map, take_all, length-drop, append-nil}
use Rattle.memchr.specs.Find.{IsFirstByte}

module _ (test : ℕ → Bool) where
  -- no byte before `end` passes
  abbrev pub NonePasses : List ℕ → ℕ → Type 0
  NonePasses t end = (i : ℕ) → i < end → test (get_or t i 0) ≡ false

  pub pieces-found : (t : List ℕ) (end : ℕ) → end < length t → NonePasses t end → test (get_or t end 0) ≡ true
      → slice_split test t ≡ take end t ∷ slice_split test (drop (suc end) t)
  pieces-found [] end within none found = absurd (omega arith)
  pieces-found (b ∷ bs) zero within none found = rw found refl
  pieces-found (b ∷ bs) (suc end) within none found =
      let later = pieces-found bs end (omega arith) (λ i before. none (suc i) (omega arith)) found in
      let first : test b ≡ false = none 0 (omega arith) in
      rw (first, later) refl

  pub pieces-none : (t : List ℕ) → NonePasses t (length t) → slice_split test t ≡ t ∷ []
  pieces-none [] none = refl
  pieces-none (b ∷ bs) none =
      let later = pieces-none bs (λ i before. none (suc i) (omega arith)) in
      let first : test b ≡ false = none 0 (omega arith) in
      rw (first, later) refl

  -- the rows of the pieces, by the first byte where the test passes
  rows-found : (row : List ℕ → List ℕ) (t : List ℕ) (end : ℕ) → IsFirstByte test t (Some end)
      → flat_map row (slice_split test t) ≡ row (take end t) ++ flat_map row (slice_split test (take (length t - (end + 1)) (drop (end + 1) t)))
  rows-found row t end found =
      let high : end < length t = found.0.high in
      let cut = pieces-found t end high (λ i before. false_from_ne_true (test (get_or t i 0)) (found.0.before i (omega arith) before)) found.1 in
      let whole : take (length t - (end + 1)) (drop (end + 1) t) ≡ drop (end + 1) t = take_all (length t - (end + 1)) (drop (end + 1) t) (omega (arith, length-drop (end + 1) t)) in
      let next : end + 1 ≡ suc end = omega arith in
      rw (whole, next, cut) refl

  pub rows-none : (row : List ℕ → List ℕ) (t : List ℕ) (r : Option ℕ) → IsFirstByte test t r → ((end : ℕ) → r ≡ Some end → ⊥)
      → flat_map row (slice_split test t) ≡ row t
  rows-none row t r first never = grind (arith, common_steps, append-nil, false_from_ne_true, pieces-none)

  -- so they are appended one after another
  pub rows-on : (row : List ℕ → List ℕ) (t : List ℕ) (end : ℕ) (old new whole : List ℕ) → IsFirstByte test t (Some end) → new ≡ old ++ row (take end t)
      → old ++ flat_map row (slice_split test t) ≡ whole → new ++ flat_map row (slice_split test (take (length t - (end + 1)) (drop (end + 1) t))) ≡ whole
  rows-on row t end old new whole found appended before = grind (arith, common_steps, append_assoc, rows-found)

-- the comment rows of a text that isn't empty
pub of_pieces : (bs : List ℕ) → (length bs ≡ 0 → ⊥) → text_rows bs ≡ flat_map comment_row (slice_split (λ c. c == 10) bs)
of_pieces bs known = search rules

-- a text in which no line feed was found is one row
pub one_row : (t : List ℕ) (r : Option ℕ) → (length t ≡ 0 → ⊥) → IsFirstByte (λ b. b == 10) t r → is_some r ≡ false → text_rows t ≡ comment_row t
one_row t r some first never = grind (arith, common_steps, of_pieces, rows-none)

-- what was appended is the text from the offset on at which it was appended
pub appended_last : (head text whole : List ℕ) (start : ℕ) → whole ≡ head ++ text → start ≡ length head → take (length whole - start) (drop start whole) ≡ text
appended_last head text whole start e s = grind (arith, common_steps, drop-append_seam, length-append, take_all)

-- ---- The parts of a script, appended one after another.

-- the stones of a colour, point by point
lines_of_points : (g : Grid) (k : Colour) (ps : List Point)
    → flat_map (λ p. play_command g.side k (Stone p)) (filter (λ p. same_cell (cell_at g p) (stone_of k)) ps) ≡ flat_map (commands_at g k) ps
lines_of_points g k [] = refl
lines_of_points g k (p ∷ ps) = grind (arith, common_steps, lines_of_points g k ps)

pub stones-by_point : (g : Grid) (k : Colour) → flat_map (commands_at g k) (points g.side) ≡ stone_commands g k
stones-by_point g k = sym (lines_of_points g k (points g.side))

pub joins_three : {E : Type 0} (r : Result (Unit {0}) E) (old first second new a b d : List ℕ) → first ≡ old ++ a → second ≡ first ++ b → OnOk r (new ≡ second ++ d)
    → OnOk r (new ≡ old ++ ((a ++ b) ++ d))
joins_three r old first second new a b d e f g = search (rules, append_assoc)
