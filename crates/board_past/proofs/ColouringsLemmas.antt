-- Past colourings, as what is kept of them tells them.
use Rattle.board_past.proofs.Common.{◌≡◌, ◌≢◌, ◌↔◌, ◌==◌, ℕ, zero, suc, ◌+◌, ◌-◌, ◌*◌, ◌%◌, ◌^◌, ◌<◌, ◌≤◌, inl, inr, List, [], ◌∷◌, ◌++◌, Bool, true, false, cond, length, get_or, take, drop, reverse, slice_range, slice_set, append_assoc, refl, sym, ap, subst, ◌∙◌, arith, length-take, length-append, IsTrue, IsFalse, Contains, length-set, take_all, take_at, drop_at, drop-drop, take-take, append-nil, eq-eqb, ne_eqb, cases_eq, false≢true, take_more, drop-set, drop_all, reverse-append, length-reverse, get_or-reverse, get_or_default, All-take, All-drop, All-append, Point, IsOn, index_of, Empty, has_unreaching, Grid, cell_at, with_cell, Change, Older, Held, PastColourings, all_of, with_next, stretch_of, first_grid, after_changes, step_back, is_full, is_settled, is_fresh, HasRoom, IsNumber, IsFreshStone, KeepRows, IsChangeOn, MakeOne, before, changes_before, held_before, all_held, AreFresh, AreKept, AreStarted, AreOn, IsPast, start_of, since, print_of, prints_of, same_or_not, cell_at-with_cell, cell_at-with_cell_elsewhere}
use Rattle.std.proofs.lemmas.Slice.{between_is}
use Rattle.board_past.specs.declared.past.print_past.changes.TheConstants.{MOST}
use Rattle.board_past.proofs.ListPastLemmas.{Contains-cases}
use Rattle.board_past.proofs.ChangesLemmas.{step-side, leads_back, makes_one, kept_on}

-- a stretch starts no later than at the newest colouring
pub started-le : (start : ℕ) (os : List Older) → AreStarted start os → start ≤ length os
started-le start [] h = omega (arith, h)
started-le start (o ∷ os) h = h.0

pub length-held : (g : Grid) (os : List Older) (changes : List Change) → length (held_before g os changes) ≡ length os
length-held g [] changes = refl
length-held g (o ∷ os) changes = ap suc (length-held (before g o changes) os (changes_before o changes))

-- the colourings
abbrev pub past_held : Grid → ℕ → List Older → List Change → PastColourings
past_held g start os changes =
    record { newest = record { colouring = g; begins = start == length os }; older = held_before g os changes }

-- a step that isn't full has room, and leaves room for those up to the next full one
pub room_before_full : (count room : ℕ) → HasRoom count room → is_full count ≡ false → (count < room) × HasRoom (count + 1) room
room_before_full count room has not_full =
    let no : count % 128 ≢ 127 = λ e. false≢true (sym not_full ∙ eq-eqb (count % 128) 127 e) in
    (omega (arith, has, no), omega (arith, has, no))

-- one colouring less
pub past-pop : (g : Grid) (start : ℕ) (older older' : List Older) (o : Older) (changes : List Change) → older ≡ older' ++ o ∷ [] → IsPast g start older changes → IsPast (before g o changes) o.stretch_start older' (changes_before o changes)
past-pop g start older older' o changes parts past =
    let turned : reverse older ≡ o ∷ reverse older' = ap reverse parts ∙ reverse-append older' (o ∷ []) in
    let kept = subst (λ (os : List Older). AreKept g os changes) turned past.kept in
    let started = subst (λ (os : List Older). AreStarted start os) turned past.started in
    let fresh = subst (λ (os : List Older). AreFresh os (all_held g start os changes)) turned past.fresh in
    record {
      kept = kept.4;
      started = started.3;
      on_grid = rw (step-side g o (drop o.start changes)) (All-take (IsChangeOn g.side) o.start changes past.on_grid);
      fresh = fresh.1;
      few = omega (arith, length-take o.start changes, past.few);
    }

-- a step that is alone leads on from a settled colouring of the same stretch, and isn't full
pub lone_step : (g : Grid) (start : ℕ) (older older' : List Older) (o : Older) (changes : List Change) → older ≡ older' ++ o ∷ [] → IsPast g start older changes → o.alone ≡ true
    → (has_unreaching (before g o changes) ≡ false) × (is_full (length older') ≡ false) × (start ≡ o.stretch_start)
lone_step g start older older' o changes parts past alone =
    let turned : reverse older ≡ o ∷ reverse older' = ap reverse parts ∙ reverse-append older' (o ∷ []) in
    let kept = subst (λ (os : List Older). AreKept g os changes) turned past.kept in
    let started = subst (λ (os : List Older). AreStarted start os) turned past.started in
    let lone = kept.1 alone in
    (kept.2 lone.2, subst (λ n. is_full n ≡ false) (length-reverse older') lone.3, started.2 alone)

-- a step that is alone has no changes
pub none_kept : (g : Grid) (start : ℕ) (older older' : List Older) (o : Older) (changes : List Change) → older ≡ older' ++ o ∷ [] → IsPast g start older changes → o.alone ≡ true → changes_before o changes ≡ changes
none_kept g start older older' o changes parts past alone = grind (arith, reverse-append, take_all)

-- One colouring more. The step back from it is known, and its changes are those that were added.
module _ (g h : Grid) (stretch next : ℕ) (older : List Older) (o : Older) (changes all : List Change) (begins : Bool) (follows : next ≡ cond begins (length older + 1) stretch) (same : o.stretch_start ≡ stretch) (rest_is : changes_before o all ≡ changes) (before_is : before h o all ≡ g) where
  turned : reverse (older ++ o ∷ []) ≡ o ∷ reverse older
  turned = reverse-append older (o ∷ [])

  next_held : AreStarted stretch (reverse older) → past_held h next (o ∷ reverse older) all ≡ with_next (past_held g stretch (reverse older) changes) h begins
  next_held started = rw (begins_is begins follows, before_is, rest_is, same) refl
    where
      begins_is : (b : Bool) → next ≡ cond b (length older + 1) stretch → (next == suc (length (reverse older))) ≡ b
      begins_is true e = eq-eqb next (suc (length (reverse older))) (omega (arith, e, length-reverse older))
      begins_is false e = ne_eqb next (suc (length (reverse older))) (λ at. omega (arith, at, e, started-le stretch (reverse older) started))

  pub held-push : AreStarted stretch (reverse older) → past_held h next (reverse (older ++ o ∷ [])) all ≡ with_next (past_held g stretch (reverse older) changes) h begins
  held-push started = rw turned (next_held started)

  pub past-push : IsPast g stretch older changes → o.start ≤ length all → (IsTrue o.alone → IsOn h.side o.point × (o.start ≡ length all) × IsTrue (is_settled o.known) × IsFalse (is_full (length older)) × IsFalse begins) → (IsTrue (is_settled o.known) → has_unreaching g ≡ false) → (IsTrue (is_full (length older)) → MakeOne g (drop o.start all)) → AreOn h.side all → length all ≤ MOST
      → (IsTrue (is_fresh o.known) → IsFreshStone (with_next (past_held g stretch (reverse older) changes) h begins) o.point) → IsPast h next (older ++ o ∷ []) all
  past-push past start lone settled full on few fresh = record {
    kept = rw turned (
      start,
      λ is. ((lone is).0, (lone is).1, (lone is).2, rw (length-reverse older) (lone is).3),
      λ is. ap has_unreaching before_is ∙ settled is,
      λ is. rw before_is (full (rw (length-reverse older) at is)),
      rw (before_is, rest_is) past.kept,
    );
    started = rw turned (omega (arith, length-reverse older, (next-is begins follows past.started).0), (next-is begins follows past.started).1, λ is. follows ∙ ap (λ b. cond b (length older + 1) stretch) (lone is).4 ∙ sym same, rw same past.started);
    on_grid = on;
    fresh = rw turned (
      λ is. subst (λ (p : PastColourings). IsFreshStone p o.point) (sym (next_held past.started)) (fresh is),
      subst (λ (hs : List Held). AreFresh (reverse older) hs) (sym (ap (λ (p : PastColourings). p.older) (next_held past.started))) past.fresh,
    );
    few = few;
  }
    where
      next-is : (b : Bool) → next ≡ cond b (length older + 1) stretch → AreStarted stretch (reverse older) → (next ≤ length older + 1) × (next < suc (length (reverse older)) → next ≡ o.stretch_start)
      next-is true e started = (omega (arith, e), λ some. absurd (omega (arith, e, some, length-reverse older)))
      next-is false e started = (omega (arith, e, started-le stretch (reverse older) started, length-reverse older), λ some. e ∙ sym same)

-- there is room for all rows of a board
pub room_for_all : {was now : List Change} {side : ℕ} → now ≡ was → length now + 52 ≤ MOST → side ≤ 52 → length was + side ≤ MOST
room_for_all same few low = omega (arith, ap (λ (cs : List Change). length cs) same, few, low)

-- the next colouring, with the rows kept that lead back from it
pub grown : (g h : Grid) (stretch next : ℕ) (older older' : List Older) (o : Older) (changes all : List Change) (full begins : Bool) (past : PastColourings)
    → past_held g stretch (reverse older) changes ≡ past → IsPast g stretch older changes → length g.cells ≡ g.side * g.side → h.side ≡ g.side → length h.cells ≡ h.side * h.side
    → KeepRows g h full g.side changes all → older' ≡ older ++ o ∷ [] → next ≡ cond begins (length older + 1) stretch → o.stretch_start ≡ stretch → o.start ≡ length changes → o.alone ≡ false
    → (IsTrue (is_settled o.known) → has_unreaching g ≡ false) → (IsTrue (is_fresh o.known) → IsFreshStone (with_next past h begins) o.point) → full ≡ is_full (length older) → length changes + g.side ≤ MOST
    → IsPast h next older' all × (past_held h next (reverse older') all ≡ with_next past h begins)
grown g h stretch next older older' o changes all full begins past view is cells side cells_h kept grows follows same start not_alone settled fresh is_full_so room =
    let newest_are : drop o.start all ≡ kept.more = ap (λ xs. drop o.start xs) kept.added ∙ drop_at changes kept.more o.start (sym start) in
    let rest_is : changes_before o all ≡ changes = ap (λ xs. take o.start xs) kept.added ∙ take_at changes kept.more o.start (sym start) in
    let before_is : before h o all ≡ g = rw (not_alone, newest_are) (leads_back cells kept side cells_h) in
    let count : length all ≡ length changes + length kept.more = ap (λ (xs : List Change). length xs) kept.added ∙ length-append changes kept.more in
    let on : AreOn h.side all = rw (kept.added, side) (All-append (IsChangeOn g.side) changes kept.more is.on_grid (kept_on cells kept)) in
    rw grows (
      past-push g h stretch next older o changes all begins follows same rest_is before_is is (omega (arith, count, start)) (λ alone. absurd (false≢true (sym not_alone ∙ alone))) settled
          (λ yes. rw newest_are (makes_one cells kept (is_full_so ∙ yes))) on (omega (arith, count, kept.few, room)) (λ known. subst (λ (p : PastColourings). IsFreshStone (with_next p h begins) o.point) (sym view) (fresh known)),
      held-push g h stretch next older o changes all begins follows same rest_is before_is is.started ∙ ap (λ (p : PastColourings). with_next p h begins) view,
    )

-- the next colouring, which a stone makes that changes nothing else
pub grown_alone : (g h : Grid) (stretch : ℕ) (older older' : List Older) (o : Older) (changes : List Change) (past : PastColourings)
    → past_held g stretch (reverse older) changes ≡ past → IsPast g stretch older changes → h.side ≡ g.side → IsOn g.side o.point → with_cell h o.point Empty ≡ g
    → older' ≡ older ++ o ∷ [] → o.stretch_start ≡ stretch → o.start ≡ length changes → o.alone ≡ true
    → IsTrue (is_settled o.known) → has_unreaching g ≡ false → (IsTrue (is_fresh o.known) → IsFreshStone (with_next past h false) o.point) → is_full (length older) ≡ false
    → IsPast h stretch older' changes × (past_held h stretch (reverse older') changes ≡ with_next past h false)
grown_alone g h stretch older older' o changes past view is side on_point back grows same start alone known settled fresh not_full =
    let rest_is : changes_before o changes ≡ changes = take_all o.start changes (omega (arith, start)) in
    let before_is : before h o changes ≡ g = rw alone back in
    rw grows (
      past-push g h stretch stretch older o changes changes false refl same rest_is before_is is (omega (arith, start)) (λ _. (rw side on_point, start, known, not_full, refl)) (λ _. settled)
          (λ full. absurd (false≢true (sym not_full ∙ full))) (rw side is.on_grid) is.few (λ known. subst (λ (p : PastColourings). IsFreshStone (with_next p h false) o.point) (sym view) (fresh known)),
      held-push g h stretch stretch older o changes changes false refl same rest_is before_is is.started ∙ ap (λ (p : PastColourings). with_next p h false) view,
    )

-- Going back by one colouring.

-- that is the colouring of a number, with the start of its stretch, and what is kept of the ones before it
pub record IsThere (held : List Held) (older : List Older) (changes : List Change) (number end start : ℕ) (grid : Grid) : Type 0 where
  pub past : IsPast grid start (take number older) (take end changes)
  pub whole : drop (length older - number) held ≡ all_held grid start (reverse (take number older)) (take end changes)
  pub within : end ≤ length changes

-- One step back, from a number to the one before it: `one` is what is kept of that.
pub record IsStep (held : List Held) (older : List Older) (changes : List Change) (number end : ℕ) (board : Grid) (one : Older) : Type 0 where
  pub low : one.start ≤ end
  pub high : end ≤ length changes
  pub point : IsTrue one.alone → IsOn board.side one.point
  pub on : AreOn board.side (slice_range changes one.start end)
  pub side : (step_back board one (slice_range changes one.start end)).side ≡ board.side
  pub there : IsThere held older changes (number - 1) one.start one.stretch_start (step_back board one (slice_range changes one.start end))

-- One step back within a stretch. The stretch of the number has its colouring, and those of the stretch of the number before it.
pub record IsLook (held : List Held) (older : List Older) (number start : ℕ) (board : Grid) (one : Older) : Type 0 where
  pub same_start : start ≡ one.stretch_start
  pub stretch : stretch_of (drop (length older - number) held) ≡ board ∷ stretch_of (drop (length older - (number - 1)) held)
  pub point : IsTrue (is_fresh one.known) → IsOn board.side one.point
  pub stone : IsTrue (is_fresh one.known) → cell_at board one.point ≢ Empty
  pub new : IsTrue (is_fresh one.known) → (grid : Grid) → Contains (stretch_of (drop (length older - (number - 1)) held)) grid → cell_at grid one.point ≡ Empty

module _ (held : List Held) (older : List Older) (changes : List Change) (number end start : ℕ) (board : Grid) (one : Older) (some : 0 < number) (high : number ≤ length older) (is_one : one ≡ get_or older (number - 1) one) (at : IsThere held older changes number end start board) where
  abbrev front : List Older
  front = take (number - 1) older

  abbrev newest_changes : List Change
  newest_changes = slice_range changes one.start end

  taken : take number older ≡ front ++ one ∷ []
  taken = grind (arith, high, take_more)

  turned_back : reverse (take number older) ≡ one ∷ reverse front
  turned_back = ap reverse taken ∙ reverse-append front (one ∷ [])

  count : length (reverse front) ≡ number - 1
  count = length-reverse front ∙ length-take (number - 1) older ∙ omega (arith, high)

  same_newest : drop one.start (take end changes) ≡ newest_changes
  same_newest = sym (between_is changes one.start end)

  parts : AreKept board (one ∷ reverse front) (take end changes)
  parts = subst (λ (os : List Older). AreKept board os (take end changes)) turned_back at.past.kept

  low : one.start ≤ end
  low = omega (arith, parts.0, length-take end changes)

  same_rest : changes_before one (take end changes) ≡ take one.start changes
  same_rest = take-take one.start end changes low

  -- the changes of a full step lead to the colouring before it from any colouring
  full-back : IsTrue (is_full (number - 1)) → MakeOne (step_back board one newest_changes) newest_changes
  full-back is = subst (λ (cs : List Change). MakeOne (step_back board one cs) cs) same_newest (parts.3 (rw count is))

  -- the colourings, of which the newest is split off
  whole-back : drop (length older - number) held ≡ record { colouring = board; begins = start == suc (length (reverse front)) } ∷ all_held (step_back board one newest_changes) one.stretch_start (reverse front) (take one.start changes)
  whole-back = rw (turned_back, same_newest, same_rest) at at.whole

  there-back : IsThere held older changes (number - 1) one.start one.stretch_start (step_back board one newest_changes)
  there-back =
      let more : length older - (number - 1) ≡ length older - number + 1 = omega (arith, some, high) in
      record {
        past = subst (λ (cs : List Change). IsPast (step_back board one newest_changes) one.stretch_start front cs) same_rest
            (subst (λ (cs : List Change). IsPast (step_back board one cs) one.stretch_start front (changes_before one (take end changes))) same_newest
            (past-pop board start (take number older) front one (take end changes) taken at.past));
        whole = ap (λ k. drop k held) more ∙ sym (drop-drop 1 (length older - number) held) ∙ ap (λ (hs : List Held). drop 1 hs) whole-back;
        within = omega (arith, low, at.within);
      }

  pub step-from : IsStep held older changes number end board one
  step-from = record {
    low = low;
    high = at.within;
    point = λ is. (parts.1 is).0;
    on = subst (λ (cs : List Change). AreOn board.side cs) same_newest (All-drop (IsChangeOn board.side) one.start (take end changes) at.past.on_grid);
    side = step-side board one newest_changes;
    there = there-back;
  }

  pub look-from : start ≢ number → IsLook held older number start board one
  look-from later =
      let one_more : suc (length (reverse front)) ≡ number = ap suc count ∙ omega (arith, some) in
      let begins : (start == suc (length (reverse front))) ≡ false = ne_eqb start (suc (length (reverse front))) (λ e. later (e ∙ one_more)) in
      let split : drop (length older - number) held ≡ record { colouring = board; begins = false } ∷ drop (length older - (number - 1)) held =
      whole-back
      ∙ ap (λ b. record { colouring = board; begins = b } ∷ all_held (step_back board one newest_changes) one.stretch_start (reverse front) (take one.start changes)) begins
      ∙ ap (λ (hs : List Held). record { colouring = board; begins = false } ∷ hs) (sym there-back.whole) in
      let started = subst (λ (os : List Older). AreStarted start os) turned_back at.past.started in
      let fresh = subst (λ (os : List Older). AreFresh os (all_held board start (reverse (take number older)) (take end changes))) turned_back at.past.fresh in
      let last = subst (λ (hs : List Held). AreFresh (one ∷ reverse front) hs) (sym at.whole ∙ split) fresh in
      record {
        same_start = started.1 (omega (arith, started.0, one_more, later));
        stretch = ap stretch_of split;
        point = λ is. (last.0 is).on;
        stone = λ is. (last.0 is).there;
        new = λ is. (last.0 is).new;
      }

-- the newest one is there
pub there-newest : (g : Grid) (start : ℕ) (older : List Older) (changes : List Change) (held : List Held) (number end : ℕ) → all_held g start (reverse older) changes ≡ held → number ≡ length older → end ≡ length changes → IsPast g start older changes → IsThere held older changes number end start g
there-newest g start older changes held number end same is is_end past = grind (arith, take_all)

-- that some colouring of the grid's side is there
abbrev pub IsSomeThere : Grid → List Held → List Older → List Change → ℕ → ℕ → Type 0
IsSomeThere newest held older changes number end =
    (start : ℕ) × (g : Grid) × (g.side ≡ newest.side) × IsThere held older changes number end start g

-- and so is the one before it
there-before : (newest : Grid) (held : List Held) (older : List Older) (changes : List Change) (upper end number : ℕ) (d : Older) → upper ≡ number + 1 → upper ≤ length older → IsSomeThere newest held older changes upper end → IsSomeThere newest held older changes number (get_or older number d).start
there-before newest held older changes upper end number d next high there =
    let one = get_or older number d in
    let before_upper : upper - 1 ≡ number = omega (arith, next) in
    let is_one : one ≡ get_or older (upper - 1) one = get_or_default older number d one (omega (arith, next, high)) ∙ ap (λ k. get_or older k one) (sym before_upper) in
    let step = step-from held older changes upper end there.0 there.1 one (omega (arith, next)) high is_one there.3 in
    (_, _, step.side ∙ there.2, subst (λ k. IsThere held older changes k one.start one.stretch_start (step_back there.1 one (slice_range changes one.start end))) before_upper step.there)

-- and so each older one is: so many numbers below the newest
there-all : (held : List Held) (older : List Older) (changes : List Change) (start : ℕ) (newest : Grid) → IsThere held older changes (length older) (length changes) start newest → (less number : ℕ) (d : Older) → number + suc less ≡ length older → IsSomeThere newest held older changes number (get_or older number d).start
there-all held older changes start newest at zero number d is =
    there-before newest held older changes (length older) (length changes) number d (omega arith) (omega arith) (start, newest, refl, at)
there-all held older changes start newest at (suc less) number d is =
    there-before newest held older changes (number + 1) _ number d refl (omega arith) (there-all held older changes start newest at less (number + 1) d (omega arith))

-- so from the number at which a look back begins, the colouring of that number is there
pub there-from : (newest : Grid) (start : ℕ) (older : List Older) (changes : List Change) (held : List Held) → all_held newest start (reverse older) changes ≡ held → IsPast newest start older changes → (number : ℕ) (one : Older) → number < length older → one ≡ get_or older number one
    → IsSomeThere newest held older changes number one.start
there-from newest start older changes held same past number one low is_one =
    let at = there-newest newest start older changes held (length older) (length changes) same refl refl past in
    subst (λ (o : Older). IsSomeThere newest held older changes number o.start) (sym is_one) (there-all held older changes start newest at (length older - number - 1) number one (omega arith))

-- what a colouring that isn't the first one tells
pub contains-others : (x : Grid) (xs : List Grid) (made : Grid) → x ≢ made → Contains (x ∷ xs) made ↔ Contains xs made
contains-others x xs made other = (λ has. elim (Contains-cases x made xs has) [ inl same ↦ absurd (other same) | inr later ↦ later ], λ has. (suc has.0, omega (arith, has.1), has.2))

-- Going back from the newest colouring over steps that only put stones: no colouring on the way has a stone where the newest has none. So one
-- that has a stone there can only be in the stretch of the number at which one is.
pub record IsPassed (held : List Held) (older : List Older) (changes : List Change) (start number : ℕ) (newest : Grid) (point : Point) : Type 0 where
  pub end : ℕ
  pub board : Grid
  pub there : IsThere held older changes number end start board
  pub high : number ≤ length older
  pub side : board.side ≡ newest.side
  pub all : length board.cells ≡ board.side * board.side
  pub fewer : (p : Point) → IsOn newest.side p → cell_at newest p ≡ Empty → cell_at board p ≡ Empty
  pub rest : (made : Grid) → cell_at made point ≢ Empty → Contains (stretch_of held) made → Contains (stretch_of (drop (length older - number) held)) made

-- none is passed yet
pub passed_none : (newest : Grid) (start : ℕ) (older : List Older) (changes : List Change) (held : List Held) (number : ℕ) (point : Point) → all_held newest start (reverse older) changes ≡ held → number ≡ length older → IsPast newest start older changes → length newest.cells ≡ newest.side * newest.side
    → IsPassed held older changes start number newest point
passed_none newest start older changes held number point same is past all =
    let none : 0 ≡ length older - number = omega arith in
    record {
      end = length changes;
      board = newest;
      there = there-newest newest start older changes held number (length changes) same is refl past;
      high = omega (arith, is);
      side = refl;
      all = all;
      fewer = λ p on empty. empty;
      rest = λ made stone has. subst (λ n. Contains (stretch_of (drop n held)) made) none has;
    }

module _ (held : List Held) (older : List Older) (changes : List Change) (start number : ℕ) (newest : Grid) (point : Point) (on : IsOn newest.side point) (empty : cell_at newest point ≡ Empty) (at : IsPassed held older changes start number newest point) where
  module _ (one : Older) (some : 0 < number) (is_one : one ≡ get_or older (number - 1) one) (later : start ≢ number) where
    look : IsLook held older number start at.board one
    look = look-from held older changes number at.end start at.board one some at.high is_one at.there later

    step : IsStep held older changes number at.end at.board one
    step = step-from held older changes number at.end start at.board one some at.high is_one at.there

    earlier : (made : Grid) → cell_at made point ≢ Empty → Contains (stretch_of held) made → Contains (stretch_of (drop (length older - (number - 1)) held)) made
    unfolding look
    earlier made stone has =
        (contains-others at.board (stretch_of (drop (length older - (number - 1)) held)) made (λ e. stone (ap (λ (g : Grid). cell_at g point) (sym e) ∙ at.fewer point on empty))).0
        (subst (λ (gs : List Grid). Contains gs made) look.stretch (at.rest made stone has))

    -- a fresh stone is on the newest colouring, and before it no colouring has it
    pub passed_fresh : is_fresh one.known ≡ true → IsOn newest.side one.point × (cell_at newest one.point ≢ Empty) × ((made : Grid) → cell_at made point ≢ Empty → cell_at made one.point ≢ Empty → Contains (stretch_of held) made → ⊥)
    passed_fresh is =
        let on_newest : IsOn newest.side one.point = subst (λ n. IsOn n one.point) at.side (look.point is) in
        (on_newest, λ free. look.stone is (at.fewer one.point on_newest free), λ made stone fresh has. fresh (look.new is made (earlier made stone has)))

    -- a step that only put a stone is passed
    pub passed_one : one.alone ≡ true → IsPassed held older changes start (number - 1) newest point
    passed_one alone =
        let cs = slice_range changes one.start at.end in
        let on_one = step.point alone in
        let is : step_back at.board one cs ≡ with_cell at.board one.point Empty = ap (λ b. cond b (with_cell at.board one.point Empty) (after_changes at.board cs)) alone in
        record {
          end = one.start;
          board = step_back at.board one cs;
          there = subst (λ s. IsThere held older changes (number - 1) one.start s (step_back at.board one cs)) (sym look.same_start) step.there;
          high = omega (arith, at.high);
          side = step.side ∙ at.side;
          all = rw is (length-set at.board.cells (index_of at.board.side one.point) Empty ∙ at.all);
          fewer = λ p on_p free.
              ap (λ (g : Grid). cell_at g p) is
              ∙ elim (same_or_not p one.point) [
                | inl same ↦ ap (λ q. cell_at (with_cell at.board one.point Empty) q) same ∙ cell_at-with_cell at.board one.point Empty on_one at.all
                | inr other ↦ cell_at-with_cell_elsewhere at.board one.point p Empty on_one (subst (λ n. IsOn n p) (sym at.side) on_p) other ∙ at.fewer p on_p free
              ];
          rest = earlier;
        }

-- the changes of a full step lead back to the colouring before it, from any board
pub record IsFullStep (held : List Held) (older : List Older) (changes : List Change) (from end : ℕ) (board : Grid) (one : Older) : Type 0 where
  pub low : one.start ≤ end
  pub high : end ≤ length changes
  pub on : AreOn board.side (slice_range changes one.start end)
  pub there : IsThere held older changes (from - 1) one.start one.stretch_start (after_changes board (slice_range changes one.start end))

pub there-full : (newest board : Grid) (start : ℕ) (older : List Older) (changes : List Change) (held : List Held) → all_held newest start (reverse older) changes ≡ held → IsPast newest start older changes → board ≡ newest → length board.cells ≡ board.side * board.side
    → (from : ℕ) (next one : Older) → 0 < from → from < length older → IsTrue (is_full (from - 1)) → next ≡ get_or older from next → one ≡ get_or older (from - 1) one
    → IsFullStep held older changes from next.start board one
there-full newest board start older changes held same past is cells from next one some low full is_next is_one =
    let end = next.start in
    let at = there-from newest start older changes held same past from next low is_next in
    let step = step-from held older changes from end at.0 at.1 one some (omega (arith, low)) is_one at.3 in
    let steps = slice_range changes one.start end in
    let side : board.side ≡ at.1.side = ap (λ (g : Grid). g.side) is ∙ sym at.2 in
    let made : step_back at.1 one steps ≡ after_changes board steps =
    sym (full-back held older changes from end at.0 at.1 one some (omega (arith, low)) is_one at.3 full board (side ∙ sym step.side) cells) in
    record {
      low = step.low;
      high = step.high;
      on = subst (λ n. AreOn n steps) (sym side) step.on;
      there = subst (λ (g : Grid). IsThere held older changes (from - 1) one.start one.stretch_start g) made step.there;
    }

-- a colouring that is there has its number
pub there-number : (held : List Held) (older : List Older) (changes : List Change) (number end start : ℕ) (grid : Grid) → length held ≡ length older + 1 → IsThere held older changes number end start grid → IsNumber held number grid
there-number held older changes number end start grid all at =
    let count : length held - 1 - number ≡ length older - number = omega (arith, all) in
    ap (λ k. first_grid (drop k held)) count ∙ ap first_grid at.whole

-- The print of a number is written before those of the later ones.
pub written-next : (held : List Held) (older : List Older) (changes : List Change) (n end start : ℕ) (board : Grid) (prints : List ℕ) (print : ℕ) → IsThere held older changes n end start board → print ≡ print_of board → n < length prints
    → prints_of held ≡ reverse (drop (n + 1) prints) ++ prints_of (drop (length older - n) held)
    → prints_of held ≡ reverse (drop n (slice_set prints n print)) ++ prints_of (drop (length older - n + 1) held)
written-next held older changes n end start board prints print at is low written =
    let k = length older - n in
    let one : Held = record { colouring = board; begins = start == length (reverse (take n older)) } in
    let rest : drop (k + 1) held ≡ held_before board (reverse (take n older)) (take end changes) = sym (drop-drop 1 k held) ∙ ap (λ (hs : List Held). drop 1 hs) at.whole in
    let later = drop (n + 1) prints in
    written
    ∙ ap (λ (hs : List Held). reverse later ++ prints_of hs) (at.whole ∙ ap (λ (hs : List Held). one ∷ hs) (sym rest))
    ∙ ap (λ p. reverse later ++ p ∷ prints_of (drop (k + 1) held)) (sym is)
    ∙ sym (append_assoc (reverse later) (print ∷ []) (prints_of (drop (k + 1) held)))
    ∙ ap (λ (ps : List ℕ). ps ++ prints_of (drop (k + 1) held)) (sym (reverse-append (print ∷ []) later))
    ∙ ap (λ (ps : List ℕ). reverse ps ++ prints_of (drop (k + 1) held)) (sym (drop-set prints n print low))

-- all are written
pub written-all : (held : List Held) (older : List Older) (prints : List ℕ) (at : ℕ) → length held ≡ length older + 1 → at ≡ 0 → prints_of held ≡ reverse (drop at prints) ++ prints_of (drop (length older - at + 1) held) → reverse prints ≡ prints_of held
written-all held older prints at all none written =
    let past : drop (length older - at + 1) held ≡ [] = drop_all (length older - at + 1) held (omega (arith, all, none)) in
    sym (written ∙ ap (λ (hs : List Held). reverse (drop at prints) ++ prints_of hs) past ∙ append-nil (reverse (drop at prints)) ∙ ap (λ n. reverse (drop n prints)) none)

-- the number of colourings
pub count-all : (g : Grid) (start : ℕ) (older : List Older) (changes : List Change) (past : PastColourings) → past_held g start (reverse older) changes ≡ past → length (all_of past) ≡ length older + 1
count-all g start older changes past same = grind (arith, length-held, length-reverse)

-- so the start of the present stretch fits into 32 bits
pub start_fits : (g : Grid) (start : ℕ) (older : List Older) (changes : List Change) (past : PastColourings) → past_held g start (reverse older) changes ≡ past → IsPast g start older changes → length (all_of past) ≤ MOST → start < 2 ^ 32
start_fits g start older changes past same is few = omega (arith, few, count-all g start older changes past same, started-le start (reverse older) is.started, length-reverse older)

-- Starts of stretches.

pub start-newest : (g : Grid) (start : ℕ) (os : List Older) (changes : List Change) → AreStarted start os → start_of (all_held g start os changes) ≡ start
start-newest g start [] changes h = rw h refl
start-newest g start (o ∷ os) changes h = elim (cases_eq start (suc (length os))) [
  | inl first ↦ rw (eq-eqb start (suc (length os)) first) (ap suc (length-held (before g o changes) os (changes_before o changes)) ∙ sym first)
  | inr later ↦
      rw (ne_eqb start (suc (length os)) later)
      (start-newest (before g o changes) o.stretch_start os (changes_before o changes) h.3 ∙ sym (h.1 (omega (arith, h.0, later))))
]

-- the start of the stretch of the colouring so many numbers back
abbrev pub start_back : ℕ → List Older → ℕ → ℕ
start_back start os zero = start
start_back start [] (suc j) = 0
start_back start (o ∷ os) (suc j) = start_back o.stretch_start os j

start_back-get : (start : ℕ) (os : List Older) (j : ℕ) (d : Older) → j < length os → start_back start os (suc j) ≡ (get_or os j d).stretch_start
start_back-get start [] j d h = absurd (omega (arith, h))
start_back-get start (o ∷ os) zero d h = refl
start_back-get start (o ∷ os) (suc j) d h = start_back-get o.stretch_start os j d (omega (arith, h))

start-so_many : (g : Grid) (start : ℕ) (os : List Older) (changes : List Change) (j : ℕ) → AreStarted start os → j ≤ length os → start_of (drop j (all_held g start os changes)) ≡ start_back start os j
start-so_many g start os changes zero h le = start-newest g start os changes h
start-so_many g start [] changes (suc j) h le = absurd (omega (arith, le))
start-so_many g start (o ∷ os) changes (suc j) h le = start-so_many (before g o changes) o.stretch_start os (changes_before o changes) j h.3 (omega (arith, le))

-- the start of the stretch of a number
module _ (g : Grid) (start : ℕ) (older : List Older) (changes : List Change) (held : List Held) (same : all_held g start (reverse older) changes ≡ held) (started : AreStarted start (reverse older)) (number : ℕ) where
  start-at : (j : ℕ) → number + j ≡ length older → start_of (since number held) ≡ start_back start (reverse older) j
  start-at j at =
      let all : length held ≡ length older + 1 = sym (ap (λ (hs : List Held). length hs) same) ∙ omega (arith, length-held g (reverse older) changes, length-reverse older) in
      let back : length held - 1 - number ≡ j = omega (arith, all, at) in
      ap (λ k. start_of (drop k held)) back ∙ ap (λ (hs : List Held). start_of (drop j hs)) (sym same) ∙ start-so_many g start (reverse older) changes j started (omega (arith, length-reverse older, at))

  pub start-of_newest : number ≡ length older → start_of (since number held) ≡ start
  start-of_newest is = start-at 0 (omega (arith, is))

  pub start-of_older : (d : Older) → number < length older → start_of (since number held) ≡ (get_or older number d).stretch_start
  start-of_older d low =
      let j = length older - 1 - number in
      let back : length older - 1 - j ≡ number = omega (arith, low) in
      start-at (suc j) (omega (arith, low))
      ∙ start_back-get start (reverse older) j d (omega (arith, low, length-reverse older))
      ∙ ap (λ (o : Older). o.stretch_start) (get_or-reverse older j d (omega (arith, low)))
      ∙ ap (λ k. (get_or older k d).stretch_start) back
