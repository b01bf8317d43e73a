-- Below which number of steps a stone may be played at once.
use Rattle.board_past.proofs.Common.{◌≡◌, ℕ, suc, ◌<◌, ◌≤◌, [], ◌∷◌, List, false, length, inl, inr, sym, ◌∙◌, arith, cases_eq, false≢true, Point, is_set, Colour, has_unreaching, play, IsMove, Emptied, Table, Held, PastColourings, all_of, newest_grid, with_next, is_full, ArePlayedAtOnce, IsAsleepTable, IsAwakeTable, IsEmptied, IsPrintPast, IsTable, HasAllEmptied, has_bit-zero, settled_by_play}
use Rattle.board_past.proofs.EmptiedLemmas.{history_all, logged_more, logged_next}
use Rattle.board_past.proofs.RepeatLemmas.{emptied_by_play}
use Rattle.board_past.proofs.TableLemmas.{asleep_more, table_same}

-- a table that has room while it sleeps is asleep
pub asleep_if_room : (held : List Held) (table : Table) (below : ℕ) → IsTable held table → 0 < below → (0 < below → below < table.room_asleep) → IsAsleepTable held table
asleep_if_room held table below (inl is) some room = is
asleep_if_room held table below (inr is) some room = absurd (omega (arith, some, room some, is.awake))

-- the number 0 is right for every past: no step is below it
pub at_once_none : (past : PastColourings) (table : Table) → ArePlayedAtOnce past table 0
at_once_none past table = record { settled = λ some. absurd (omega (arith, some)); asleep = λ some. absurd (omega (arith, some)); not_full = λ count from few. absurd (omega (arith, few)) }

-- with more room, and as many colourings, the number holds still
pub at_once_same : (past : PastColourings) (old new : Table) (below : ℕ) → old.room_asleep ≤ new.room_asleep → ArePlayedAtOnce past old below → ArePlayedAtOnce past new below
at_once_same past old new below more is = record { settled = is.settled; asleep = λ some. omega (arith, more, is.asleep some); not_full = is.not_full }

-- and a past that gets more room keeps all else
pub past_same : (past : PastColourings) (old new : Table) (one other : Emptied) (below : ℕ) → (IsAsleepTable (all_of past) old → IsAsleepTable (all_of past) new) → (IsAwakeTable (all_of past) old → IsAwakeTable (all_of past) new) → old.room_asleep ≤ new.room_asleep
    → (IsEmptied (all_of past) one → IsEmptied (all_of past) other) → IsPrintPast past old one below → IsPrintPast past new other below
past_same past old new one other below asleep awake more emptied is = grind (arith, table_same, at_once_same)

-- a stone that is played: the number holds still
pub at_once_more : (was : PastColourings) (table : Table) (below : ℕ) (k : Colour) (p : Point) → ArePlayedAtOnce was table below → ArePlayedAtOnce (with_next was (play (newest_grid was) k p) false) table below
at_once_more was table below k p is = record { settled = λ _. settled_by_play (newest_grid was) k p; asleep = is.asleep; not_full = λ count from few. is.not_full count (omega (arith, from)) few }

-- The stone that is played at once: what is kept beside the colourings.
module _ (was : PastColourings) (table : Table) (emptied : Emptied) (below : ℕ) (k : Colour) (p : Point) (low : length was.older < below) (is : ArePlayedAtOnce was table below) where
  pub tabled_more_at_once : (next : Held) → IsTable (all_of was) table → IsTable (next ∷ all_of was) table
  tabled_more_at_once next tabled = grind (arith, asleep_if_room, asleep_more)

  pub emptied_more_at_once : IsMove (newest_grid was) k p [] → IsEmptied (all_of was) emptied → IsEmptied (all_of (with_next was (play (newest_grid was) k p) false)) emptied
  emptied_more_at_once move has =
      let next : Held = record { colouring = play (newest_grid was) k p; begins = false } in
      let all : HasAllEmptied (is_set emptied.rows) (next ∷ all_of was) =
      ((λ _ q on some free. absurd (false≢true (sym (has_bit-zero q.col) ∙ emptied_by_play (newest_grid was) k p [] move q on some free))), history_all emptied.rows _ (all_of was) has.history) in
      logged_next (all_of was) next emptied all (logged_more (all_of was) emptied has)

-- A lone stone that is taken back: the number holds still.
pub at_once_less : (was now : PastColourings) (table : Table) (below : ℕ) → length was.older ≡ suc (length now.older) → has_unreaching (newest_grid now) ≡ false → is_full (length now.older) ≡ false → ArePlayedAtOnce was table below → ArePlayedAtOnce now table below
at_once_less was now table below one settled step is = grind (arith, cases_eq)
