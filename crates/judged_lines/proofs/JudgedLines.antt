-- A judge goes on by the nodes of a line, and how many of them are judged.
use Rattle.judged_lines.proofs.Common.{Node, Grid, LegalStep, GameKind, game_kind, root_properties, IsLegalStep, after, begun_game, board_in, HasJudged, PlaysUpTo, fresh_plays, judged_on, LegalNode, legal_on, Judging, IsDecided, IsStepFrom, IsUndecided, state_after, common_steps, ◌≡◌, ℕ, ◌+◌, ◌≤◌, List, [], ◌∷◌, length, min, take, drop, ◌++◌, refl, slice_get, Some, None, Result, OnOk, sym, ap, subst, ◌∙◌, arith, length-append, append-nil, append_assoc, rules, length-take, length-take-le, take-append-drop, IsErr, take-append_seam}
use Rattle.judged_lines.specs.inner.Keeping.{WentOn, plays_for}
use Rattle.judged_lines.proofs.Judgements.{judging_more, plays_one, decided_all, decided_by}
use Rattle.judged_lines.proofs.Keeping.{judging_front}
use Rattle.judged_lines.proofs.LegalNodes.{is_taken, taken_decided, told_last, untaken}
use Rattle.judged_lines.proofs.Walking.{judged_of_front}

-- the judgement before the root is that of its game
pub begun_front : (nodes : List Node) (root : Node) (held : ℕ) → slice_get nodes 0 ≡ Some root → held ≡ 0 → begun_game (game_kind root.properties) ≡ judging_front nodes held
begun_front nodes root held e none = grind (arith, common_steps)

module _ (kind : GameKind) where
  abbrev judged_count : List Node → ℕ
  judged_count nodes = length (judged_on kind nodes)

  -- the first nodes of a line are judged as far as the line is
  judged_first : (front rest : List Node) → judged_count front ≡ min (length front) (judged_count (front ++ rest))
  judged_first front rest = grind (arith, common_steps, take-append_seam front rest, judged_of_front kind (front ++ rest) (length front), length-take (length front) (judged_on kind (front ++ rest)))

  -- no more than there are
  few : (before nodes : List Node) → plays_for kind before nodes ≤ length nodes
  few before nodes = omega (arith, judged_first before nodes, judged_first (before ++ nodes) [], length-append before nodes)

  plays_sum : (before nodes more : List Node) → plays_for kind before (nodes ++ more) ≡ plays_for kind before nodes + plays_for kind (before ++ nodes) more
  plays_sum before nodes more = grind (arith, common_steps, judged_first before nodes, judged_first (before ++ nodes) more, append_assoc before nodes more)

-- a judge went on by the first of these nodes, and the rest of them is left
pub record Going (holds : GameKind → List LegalNode → Type 0) (kind : GameKind) (before all rest : List Node) (old : ℕ) (judge : Judging) : Type 0 where
  pub done : List Node
  pub whole : done ++ rest ≡ all
  pub on : WentOn holds kind before done old judge

-- before the first of them
pub starts : {holds : GameKind → List LegalNode → Type 0} {kind : GameKind} {before : List Node} (all rest : List Node) (old : ℕ) (judge : Judging) → HasJudged holds kind before judge.judgement → judge.plays ≡ old
    → rest ≡ all → Going holds kind before all rest old judge
starts {holds} {kind} {before} all rest old judge has plays is = search (rules, append-nil, few)

module _ {holds : GameKind → List LegalNode → Type 0} {kind : GameKind} {before all rest : List Node} {old : ℕ} {judge : Judging} (h : Going holds kind before all rest old judge) where
  pub countable : judge.plays + length rest ≤ old + length all
  countable = omega (arith, h.on.plays, few kind before h.done, ap length h.whole, length-append h.done rest)

  -- none is left
  pub ends : rest ≡ [] → WentOn holds kind before all old judge
  ends none = subst (λ nodes. WentOn holds kind before nodes old judge) (sym (append-nil h.done) ∙ ap (λ nodes. h.done ++ nodes) (sym none) ∙ h.whole) h.on

  -- or the rest changes nothing, since the verdict is known
  pub decides : IsDecided judge.judgement → WentOn holds kind before all old judge
  decides decided = grind (arith, common_steps, decided_all kind (before ++ h.done) rest (subst IsDecided h.on.has_judged.judged decided), append_assoc before h.done rest, taken_decided)

  module _ (more others : List Node) (is : rest ≡ more ++ others) where
    whole : (h.done ++ more) ++ others ≡ all
    whole = append_assoc h.done more others ∙ ap (λ nodes. h.done ++ nodes) (sym is) ∙ h.whole

    -- the judge goes on by more of them
    pub goes_on : (tells : GameKind → List LegalNode → Type 0) (new : Judging) → WentOn tells kind (before ++ h.done) more judge.plays new → Going tells kind before all others old new
    goes_on tells new on = grind (arith, common_steps, whole, append_assoc, plays_sum)

    -- or by some of these, for want of memory
    pub stops : (new : ℕ) → (judge.plays ≤ new) × (new ≤ judge.plays + plays_for kind (before ++ h.done) more) → (old ≤ new) × (new ≤ old + plays_for kind before all)
    stops new up = search (rules, plays_sum, whole)

-- a judge took the first of these nodes, and the others are left
pub record TookOne (judge : Judging) (rest : List Node) (node : Node) (others : List Node) (new : Judging) : Type 0 where
  pub undecided : IsUndecided judge.judgement
  pub first : rest ≡ node ∷ others
  pub judged : new.judgement ≡ after judge.judgement node
  pub plays : new.plays ≡ judge.plays + 1

-- by one node
module _ {holds : GameKind → List LegalNode → Type 0} {kind : GameKind} {before all rest : List Node} {old : ℕ} {judge : Judging} (h : Going holds kind before all rest old judge)
    {node : Node} {others : List Node} {new : Judging} (one : TookOne judge rest node others new) where
  by_node : (tells : GameKind → List LegalNode → Type 0) → tells kind (legal_on kind ((before ++ h.done) ++ node ∷ [])) → Going tells kind before all others old new
  by_node tells told =
      let nodes = before ++ h.done in
      goes_on h (node ∷ []) others one.first tells new (record {
        has_judged = record { judged = one.judged ∙ ap (λ j. after j node) h.on.has_judged.judged ∙ sym (judging_more kind nodes node); taken = told };
        plays = omega (arith, one.plays, plays_one kind nodes node (subst IsUndecided h.on.has_judged.judged one.undecided));
      })

  -- which wasn't taken
  pub refuses : state_after judge.judgement node ≡ None → WentOn holds kind before all old new
  refuses none =
      decides (by_node holds (subst (holds kind) (untaken kind (before ++ h.done) node judge.judgement h.on.has_judged.judged none) h.on.has_judged.taken)) (rw one.judged (decided_by judge.judgement node none))

  -- or whose step wasn't told, for want of memory
  pub unsaid : (old ≤ new.plays) × (new.plays ≤ old + plays_for kind before all)
  unsaid = stops (by_node (λ _ _. Unit {0}) tt) [] others refl new.plays (omega arith, omega arith)

  -- or whose step was told
  module _ (step : LegalStep) (grid : Grid) (taken : IsStepFrom judge.judgement node (Some step)) (there : Some grid ≡ board_in new.judgement) where
    abbrev pub taken_node : LegalNode
    taken_node = record { node = node; after = taken.0 }

    pub step_taken : IsLegalStep kind grid step taken_node
    step_taken = is_taken kind (before ++ h.done) node judge.judgement h.on.has_judged.judged step grid taken (there ∙ ap board_in one.judged)

    pub said : (tells : GameKind → List LegalNode → Type 0) → tells kind (legal_on kind (before ++ h.done) ++ taken_node ∷ []) → Going tells kind before all others old new
    said tells told = by_node tells (subst (tells kind) (told_last kind (before ++ h.done) node judge.judgement h.on.has_judged.judged taken.0 taken.1) told)

-- a line was judged, whose front was judged before
module _ (nodes : List Node) (held : ℕ) (le : held ≤ length nodes) {A E : Type 0} (r : Result A E) where
  abbrev kind_of : GameKind
  kind_of = game_kind (root_properties nodes)

  fresh : plays_for kind_of (take held nodes) (drop held nodes) ≡ fresh_plays nodes held
  fresh = omega (arith, judged_first kind_of (take held nodes) (drop held nodes), ap (judged_count kind_of) (take-append-drop held nodes), length-take-le held nodes le)

  pub finish : (tells : GameKind → List LegalNode → Type 0) (old : ℕ) (judge : Judging) → WentOn tells kind_of (take held nodes) (drop held nodes) old judge
      → record { judged : OnOk r (HasJudged tells kind_of nodes judge.judgement); plays : PlaysUpTo old judge.plays (fresh_plays nodes held) r }
  finish tells old judge on = search (rules, take-append-drop, fresh)

  pub stopped : (old new : ℕ) → IsErr r → (old ≤ new) × (new ≤ old + plays_for kind_of (take held nodes) (drop held nodes)) → PlaysUpTo old new (fresh_plays nodes held) r
  stopped old new is up = search (rules, fresh)
