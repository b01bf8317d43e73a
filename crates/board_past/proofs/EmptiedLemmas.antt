-- The points that were emptied, and the rows that lead back to earlier sets of them.
use Rattle.board_past.proofs.Common.{◌≡◌, ℕ, suc, ◌+◌, ◌-◌, ◌<◌, ◌≤◌, Bool, List, [], ◌∷◌, ◌++◌, length, length-append, reverse, drop, get_or, slice_set, bit_or, sym, ap, subst, ◌∙◌, arith, vec_capacity, length-set, set-set, or_left, get_or_append_left, set-get_or, reverse-append, All-push, Point, has_bit, is_set, IsAmong, Emptied, OldRow, Held, HasAllEmptied, HasHistory, HasRowsBelow, IsBelow, IsEmptied, IsLogged, oldest, AddedBelow, each_row, has_bit-or}
use Rattle.board_past.proofs.RepeatLemmas.{HasAllEmptied-more}
use Rattle.board_points.specs.inner.Columns.{IsPart}

oldest-same : (count : ℕ) (x : Held) (xs : List Held) → count ≤ length xs → oldest count (x ∷ xs) ≡ oldest count xs
oldest-same count x xs le = let next : suc (length xs) - count ≡ suc (length xs - count) = omega (arith, le) in ap (λ n. drop n (x ∷ xs)) next

oldest-all : (held : List Held) (count : ℕ) → count ≡ length held → oldest count held ≡ held
oldest-all held count e = let none : length held - count ≡ 0 = omega (arith, e) in ap (λ n. drop n held) none

pub history_all : (rows : List ℕ) (log : List OldRow) (held : List Held) → HasHistory rows log held → HasAllEmptied (is_set rows) held
history_all rows [] held has = has
history_all rows (last ∷ older) held has = has.0

-- a row that got points
among_set : (rows : List ℕ) (row more : ℕ) → row < length rows → IsAmong (is_set rows) (is_set (slice_set rows row (bit_or (get_or rows row 0) more)))
among_set rows row more low = λ p. each_row (λ r w. IsPart (has_bit (get_or rows r 0)) (has_bit w)) rows row (bit_or (get_or rows row 0) more) low
    (λ _ _ _ is. is) (λ col is. has_bit-or (get_or rows row 0) more col ∙ or_left _ _ is) p.row p.col

history_added : (rows : List ℕ) (log : List OldRow) (held : List Held) (last : OldRow) (more : ℕ) → last.row < length rows → last.word ≡ get_or rows last.row 0 → last.number ≡ length held
    → HasHistory rows log held → HasHistory (slice_set rows last.row (bit_or (get_or rows last.row 0) more)) (last ∷ log) held
history_added rows log held last more low word number has =
    let wider = slice_set rows last.row (bit_or (get_or rows last.row 0) more) in
    let back : slice_set wider last.row last.word ≡ rows =
    set-set rows last.row (bit_or (get_or rows last.row 0) more) last.word ∙ ap (λ w. slice_set rows last.row w) word ∙ set-get_or rows last.row 0 in (
      HasAllEmptied-more (is_set rows) (is_set wider) held (among_set rows last.row more low) (history_all rows log held has),
      omega (arith, number),
      subst (λ (xs : List ℕ). HasHistory xs log (oldest last.number held)) (sym back) (subst (λ (hs : List Held). HasHistory rows log hs) (sym (oldest-all held last.number number)) has),
    )

history_back : (rows : List ℕ) (log : List OldRow) (held : List Held) (last : OldRow) → last.number ≡ length held → HasHistory rows (last ∷ log) held → HasHistory (slice_set rows last.row last.word) log held
history_back rows log held last number has = subst (λ (hs : List Held). HasHistory (slice_set rows last.row last.word) log hs) (oldest-all held last.number number) has.2

history_next : (rows : List ℕ) (log : List OldRow) (newest : Held) (older : List Held) → HasHistory rows log older → HasAllEmptied (is_set rows) (newest ∷ older) → HasHistory rows log (newest ∷ older)
history_next rows [] newest older has all = all
history_next rows (last ∷ log) newest older has all =
    (all, omega (arith, has.1), subst (λ (hs : List Held). HasHistory (slice_set rows last.row last.word) log hs) (sym (oldest-same last.number newest older has.1)) has.2)

emptied_tail : (set : Point → Bool) (newest : Held) (older : List Held) → HasAllEmptied set (newest ∷ older) → HasAllEmptied set older
emptied_tail set newest older all = grind arith

history_tail : (rows : List ℕ) (log : List OldRow) (newest : Held) (older : List Held) → IsBelow log (length older + 1) → HasHistory rows log (newest ∷ older) → HasHistory rows log older
history_tail rows [] newest older below has = emptied_tail (is_set rows) newest older has
history_tail rows (last ∷ log) newest older below has =
    let few : last.number ≤ length older = omega (arith, below.0) in
    (emptied_tail (is_set rows) newest older has.0, few, subst (λ (hs : List Held). HasHistory (slice_set rows last.row last.word) log hs) (oldest-same last.number newest older few) has.2)

below_more : (log : List OldRow) (a b : ℕ) → a ≤ b → IsBelow log a → IsBelow log b
below_more [] a b le below = tt
below_more (last ∷ log) a b le below = (omega (arith, le, below.0), below.1)

-- the old rows, newest first
turned : (more log : List OldRow) (last : OldRow) → more ≡ log ++ last ∷ [] → reverse more ≡ last ∷ reverse log
turned more log last is = ap reverse is ∙ reverse-append log (last ∷ [])

pub all_but_one : (log : List OldRow) (last : OldRow) → HasRowsBelow (log ++ last ∷ []) → HasRowsBelow log
all_but_one log last below = λ k d in_all.
    subst (λ (x : OldRow). x.row < 52) (get_or_append_left log (last ∷ []) d k in_all) (below k d (omega (arith, in_all, length-append log (last ∷ []))))

-- a step that begins
pub logged_more : (held : List Held) (emptied : Emptied) → IsEmptied held emptied → IsLogged held (length held + 1) emptied
logged_more held emptied is = record { rows = is.rows; inside = is.inside; history = is.history; below = below_more (reverse emptied.log.items) (length held) (length held + 1) (omega arith) is.below }

-- a row that gets points
pub logged_row : (held : List Held) (now new : Emptied) (last : OldRow) (more : ℕ) → last.row < 52 → last.number ≡ length held → last.word ≡ get_or now.rows last.row 0
    → new.rows ≡ slice_set now.rows last.row (bit_or (get_or now.rows last.row 0) more) → new.log.items ≡ now.log.items ++ last ∷ []
    → IsLogged held (length held + 1) now → IsLogged held (length held + 1) new
logged_row held now new last more low number word rows log is =
    let back = turned new.log.items now.log.items last log in
    record {
      rows = ap length rows ∙ length-set now.rows last.row _ ∙ is.rows;
      inside = rw log (All-push (λ old. old.row < 52) now.log.items last is.inside low);
      history = rw (rows, back) (history_added now.rows (reverse now.log.items) held last more (omega (arith, low, is.rows)) word number is.history);
      below = rw back (omega (arith, number), below_more (reverse now.log.items) (length held + 1) (last.number + 1) (omega (arith, number)) is.below);
    }

-- a row that is as it was before
pub logged_back : (held : List Held) (now new : Emptied) (last : OldRow) → length held ≤ last.number → new.rows ≡ slice_set now.rows last.row last.word → now.log.items ≡ new.log.items ++ last ∷ []
    → IsLogged held (length held + 1) now → IsLogged held (length held + 1) new
logged_back held now new last from rows log is =
    let back = turned now.log.items new.log.items last log in
    let below : IsBelow (last ∷ reverse new.log.items) (length held + 1) = rw back at is.below in
    record {
      rows = ap length rows ∙ length-set now.rows last.row _ ∙ is.rows;
      inside = all_but_one new.log.items last (rw log at is.inside);
      history = rw rows (history_back now.rows (reverse new.log.items) held last (omega (arith, from, below.0)) (rw back at is.history));
      below = below_more (reverse new.log.items) (last.number + 1) (length held + 1) (omega (arith, below.0)) below.1;
    }

-- a step, once the set has what it empties
pub logged_next : (held : List Held) (next : Held) (emptied : Emptied) → HasAllEmptied (is_set emptied.rows) (next ∷ held) → IsLogged held (length held + 1) emptied → IsEmptied (next ∷ held) emptied
logged_next held next emptied all is = grind (arith, below_more, history_next)

-- a step to be taken back
pub logged_tail : (newest : Held) (older : List Held) (emptied : Emptied) → IsEmptied (newest ∷ older) emptied → IsLogged older (length older + 1) emptied
logged_tail newest older emptied is = grind (arith, below_more, history_tail)

-- the rows below `row` got their points
pub record IsAddedBelow (old : Emptied) (points : List ℕ) (number row : ℕ) (new : Emptied) : Type 0 where
  pub rows : AddedBelow old.rows points row new.rows
  pub count : length new.rows ≡ 52
  pub room : length new.log.items + (length points - row) ≤ vec_capacity new.log
  pub logged : (held : List Held) → number ≡ length held → IsEmptied held old → IsLogged held (length held + 1) new
