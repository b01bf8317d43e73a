-- A line's judgement goes on by a node, and back to its first nodes.
use Rattle.judged_lines.proofs.Common.{◌≡◌, ℕ, ◌<◌, ◌≤◌, List, [], ◌∷◌, length, refl, ap, ◌∙◌, arith, suc, ◌+◌, ◌++◌, take, drop, Option, Some, None, Ok, Err, sym, subst, length-append, append-nil, append_assoc, rules, fold, take_all, take-append-drop, length-take-le, lt-leb, common_steps, take-append-le, Node, Reason, State, States, followed_by, Verdict, GameKind, not_go, bad_size, board, Judgement, unjudged, judged, begun_game, after, judging, board_in, step, verdict_at, verdict_by, judged_on, IllegalNode, Walk, before_root, next, walk, legal_on, judged_by, back_from, back_to, Judging, IsDecided, IsUndecided, judgement_of, back, verdict_in, state_after, state_of, legal_by, fold-append, NotGo, BadSize, le-leb}
use Rattle.judged_lines.specs.inner.Judging.{side_in}
use Rattle.judged_lines.specs.Judgement.{stepped}
use Rattle.judged_lines.specs.declared.verdict.Verdict.TheVariants.{Illegal}
use Rattle.judged_lines.specs.Walk.{next_by}
use Rattle.judged_lines.proofs.Walking.{StandsAfter, next_is, one_judged}

-- nothing to take back
pub back_none : (states : States) (depth : ℕ) → length states.earlier ≤ depth → back_to states depth ≡ states
back_none states depth le = by states.present states.earlier le
  where
    by : (s : State) (es : List State) → length es ≤ depth → back_from s es depth ≡ record { present = s; earlier = es }
    by s [] le = refl
    by s (e ∷ es) le = rw (le-leb (length (e ∷ es)) depth le) refl

-- one to take back
pub back_one : (s e : State) (es : List State) (depth : ℕ) → depth < length (e ∷ es) → back_from s (e ∷ es) depth ≡ back_from e es depth
back_one s e es depth lt = rw (lt-leb (length (e ∷ es)) depth lt) refl

pub back_undone : (old new : States) (depth : ℕ) (s : State) → depth < length old.earlier → old ≡ followed_by new s → back_to old depth ≡ back_to new depth
back_undone old new depth s lt is = search rules

pub judging_more : (kind : GameKind) (nodes : List Node) (node : Node) → judging kind (nodes ++ node ∷ []) ≡ after (judging kind nodes) node
judging_more kind nodes node = fold-append after (begun_game kind) nodes (node ∷ [])

-- nothing changes where the game isn't judged
pub unjudged_stays : (told : Verdict) (nodes : List Node) → fold after (unjudged told) nodes ≡ unjudged told
unjudged_stays told [] = refl
unjudged_stays told (n ∷ ns) = unjudged_stays told ns

-- ---- back to the first nodes

-- this many nodes came, and each was taken, or the line ended before
abbrev Came : ℕ → Judgement → Type 0
Came count (unjudged told) = Unit {0}
Came count (judged states None) = length states.earlier ≡ count
Came count (judged states (Some told)) = length states.earlier < count

one_came : (count : ℕ) (j : Judgement) (node : Node) → Came count j → Came (suc count) (after j node)
one_came count j node came = grind (arith, common_steps)

came_on : (count : ℕ) (j : Judgement) (nodes : List Node) → Came count j → Came (count + length nodes) (fold after j nodes)
came_on count j [] h = subst (λ n. Came n j) (omega arith) h
came_on count j (n ∷ ns) h = subst (λ m. Came m (fold after j (n ∷ ns))) (omega arith) (came_on (suc count) (after j n) ns (one_came count j n h))

back_within : (count : ℕ) (states : States) (ended : Option Verdict) → count ≤ length states.earlier → back count (judged states ended) ≡ judged (back_to states count) None
back_within count states ended le = rw (le-leb count (length states.earlier) le) refl

back_here : (count : ℕ) (j : Judgement) → Came count j → back count j ≡ j
back_here count j known = grind (arith, common_steps, back_none, back_within, lt-leb)

-- unless the line ended, at least this many nodes were taken
abbrev HasTaken : ℕ → Judgement → Type 0
HasTaken count (unjudged told) = Unit {0}
HasTaken count (judged states None) = count ≤ length states.earlier
HasTaken count (judged states (Some told)) = Unit {0}

came_taken : (count : ℕ) (j : Judgement) → Came count j → HasTaken count j
came_taken count j known = search rules

back_one_more : (count : ℕ) (j : Judgement) (node : Node) → HasTaken count j → HasTaken count (after j node) × (back count (after j node) ≡ back count j)
back_one_more count j node taken = grind (arith, common_steps, back_within, back_undone)

back_on : (count : ℕ) (j : Judgement) (nodes : List Node) → HasTaken count j → back count (fold after j nodes) ≡ back count j
back_on count j [] h = refl
back_on count j (n ∷ ns) h = (let next = back_one_more count j n h in back_on count (after j n) ns next.0 ∙ next.1)

came_first : (kind : GameKind) → Came 0 (begun_game kind)
came_first kind = search rules

came_front : (kind : GameKind) (nodes : List Node) (count : ℕ) → count ≤ length nodes → Came count (judging kind (take count nodes))
came_front kind nodes count le = subst (λ n. Came n (judging kind (take count nodes))) (omega (arith, length-take-le count nodes le)) (came_on 0 (begun_game kind) (take count nodes) (came_first kind))

pub judging_back : (kind : GameKind) (nodes : List Node) (count : ℕ) → count ≤ length nodes → back count (judging kind nodes) ≡ judging kind (take count nodes)
judging_back kind nodes count le =
    let front = judging kind (take count nodes) in
    let came = came_front kind nodes count le in
    ap (λ ns. back count (judging kind ns)) (sym (take-append-drop count nodes)) ∙ ap (back count) (fold-append after (begun_game kind) (take count nodes) (drop count nodes))
    ∙ back_on count front (drop count nodes) (came_taken count front came) ∙ back_here count front came

-- ---- the same along a walk

-- a judgement is that of a walk
abbrev IsOfWalk : Judgement → Walk → Type 0
IsOfWalk (unjudged told) walked = ⊥
IsOfWalk (judged states None) walked = StandsAfter walked states.present × (length walked.taken ≡ length states.earlier)
IsOfWalk (judged states (Some told)) walked =
    ((met : IllegalNode) × (walked.illegal ≡ Some met) × (walked.state ≡ states.present) × (told ≡ Illegal (states.present.turns + 1) met.node.place met.reason))
    × (length walked.taken ≡ length states.earlier)

next_none : (walked : Walk) (node : Node) (met : IllegalNode) → walked.illegal ≡ Some met → next walked node ≡ walked
next_none walked node met some = ap (λ o. next_by walked o node) some

walk_more : (j : Judgement) (walked : Walk) (node : Node) → IsOfWalk j walked → IsOfWalk (after j node) (next walked node)
walk_more j walked node known = grind (arith, common_steps, length-append, next_is, next_none)

walk_on : (j : Judgement) (walked : Walk) (nodes : List Node) → IsOfWalk j walked → IsOfWalk (fold after j nodes) (fold next walked nodes)
walk_on j walked [] h = h
walk_on j walked (n ∷ ns) h = walk_on (after j n) (next walked n) ns (walk_more j walked n h)

of_walk : (side : ℕ) (nodes : List Node) → IsOfWalk (judging (board side) nodes) (walk side nodes)
of_walk side nodes = walk_on (begun_game (board side)) (before_root side) nodes (record { no_illegal = refl; state = refl }, refl)

verdict_of_walk : (j : Judgement) (walked : Walk) → IsOfWalk j walked → verdict_in j ≡ verdict_at walked
verdict_of_walk j walked known = search rules

pub judging_verdict : (kind : GameKind) (nodes : List Node) → verdict_in (judging kind nodes) ≡ verdict_by kind nodes
judging_verdict kind nodes = grind (arith, common_steps, of_walk, unjudged_stays, verdict_of_walk)

-- the nodes that were taken
walk_step : (side : ℕ) (nodes : List Node) (node : Node) → walk side (nodes ++ node ∷ []) ≡ next (walk side nodes) node
walk_step side nodes node = fold-append next (before_root side) nodes (node ∷ [])

taken_next : (j : Judgement) (walked : Walk) (node : Node) → IsOfWalk j walked → (next walked node).taken ≡ walked.taken ++ legal_by (state_after j node) node
taken_next j walked node known = search rules

pub taken_more : (kind : GameKind) (nodes : List Node) (node : Node) → legal_on kind (nodes ++ node ∷ []) ≡ legal_on kind nodes ++ legal_by (state_after (judging kind nodes) node) node
taken_more kind nodes node = grind (arith, common_steps, unjudged_stays, of_walk, taken_next, walk_step)

-- those of a longer walk begin with them
taken_further : (count : ℕ) (walked : Walk) (nodes : List Node) → (walked.illegal ≡ None → count ≤ length walked.taken) → take count (fold next walked nodes).taken ≡ take count walked.taken
taken_further count walked [] h = refl
taken_further count walked (n ∷ ns) h =
    let more : (let w = next walked n in (w.illegal ≡ None → count ≤ length w.taken) × (take count w.taken ≡ take count walked.taken)) = grind (arith, common_steps, length-append, take-append-le) in
    taken_further count (next walked n) ns more.0 ∙ more.1

taken_count : (count : ℕ) (j : Judgement) (walked : Walk) → Came count j → IsOfWalk j walked → (length walked.taken ≤ count) × (walked.illegal ≡ None → count ≤ length walked.taken)
taken_count count j walked known known2 = search rules

walk_cut : (side : ℕ) (nodes : List Node) (count : ℕ) → count ≤ length nodes → (walk side (take count nodes)).taken ≡ take count (walk side nodes).taken
walk_cut side nodes count le =
    let front = walk side (take count nodes) in
    let counted = taken_count count (judging (board side) (take count nodes)) front (came_front (board side) nodes count le) (of_walk side (take count nodes)) in
    sym (
    ap (λ ns. take count (walk side ns).taken) (sym (take-append-drop count nodes)) ∙ ap (λ (w : Walk). take count w.taken) (fold-append next (before_root side) (take count nodes) (drop count nodes))
    ∙ taken_further count front (drop count nodes) counted.1 ∙ take_all count front.taken counted.0)

pub taken_cut : (kind : GameKind) (nodes : List Node) (count : ℕ) → count ≤ length nodes → legal_on kind (take count nodes) ≡ take count (legal_on kind nodes)
taken_cut kind nodes count le = grind (arith, common_steps, walk_cut)

-- a node was taken only if the line had not ended, by a step that is taken
pub taken_only : (j : Judgement) (node : Node) (s : State) → state_after j node ≡ Some s → (states : States) × (j ≡ judged states None) × (step states.present node ≡ Ok s)
taken_only j node s known = search rules

-- the board of a node that was taken
pub board_after : (j : Judgement) (node : Node) (s : State) → state_after j node ≡ Some s → board_in (after j node) ≡ Some s.colouring
board_after j node s e = let t = taken_only j node s e in ap (λ k. board_in (after k node)) t.1 ∙ ap (λ r. board_in (stepped t.0 node r)) t.2

-- ---- how many nodes are judged

-- how many nodes are played for the next node
abbrev next_plays : Judgement → ℕ
next_plays (unjudged told) = 0
next_plays (judged states (Some told)) = 0
next_plays (judged states None) = 1

one_played : (j : Judgement) (walked : Walk) (node : Node) → IsOfWalk j walked → length (judged_by (next walked node)) ≡ length (judged_by walked) + next_plays j
one_played j walked node known = grind (arith, common_steps, length-append, next_none, one_judged)

plays_more : (kind : GameKind) (nodes : List Node) (node : Node) → length (judged_on kind (nodes ++ node ∷ [])) ≡ length (judged_on kind nodes) + next_plays (judging kind nodes)
plays_more not_go nodes node = omega (arith, ap next_plays (unjudged_stays NotGo nodes))
plays_more bad_size nodes node = omega (arith, ap next_plays (unjudged_stays BadSize nodes))
plays_more (board side) nodes node =
    ap (λ w. length (judged_by w)) (walk_step side nodes node) ∙ one_played (judging (board side) nodes) (walk side nodes) node (of_walk side nodes)

pub plays_one : (kind : GameKind) (nodes : List Node) (node : Node) → IsUndecided (judging kind nodes) → length (judged_on kind (nodes ++ node ∷ [])) ≡ length (judged_on kind nodes) + 1
plays_one kind nodes node known = search (rules, plays_more)

pub undecided_by : (j : Judgement) (node : Node) (s : State) → state_after j node ≡ Some s → IsUndecided (after j node)
undecided_by j node s some = search rules

pub decided_by : (j : Judgement) (node : Node) → state_after j node ≡ None → IsDecided (after j node)
decided_by j node none = search rules

pub decided_none : (j : Judgement) (node : Node) → IsDecided j → (state_after j node ≡ None) × (next_plays j ≡ 0)
decided_none j node known = search rules

pub decided_more : (kind : GameKind) (nodes : List Node) (node : Node) → IsDecided (judging kind nodes) → judging kind (nodes ++ node ∷ []) ≡ judging kind nodes
decided_more kind nodes node h = search (rules, judging_more)

pub decided_all : (kind : GameKind) (nodes more : List Node) → IsDecided (judging kind nodes)
    → (judging kind (nodes ++ more) ≡ judging kind nodes) × (length (judged_on kind (nodes ++ more)) ≡ length (judged_on kind nodes))
decided_all kind nodes [] h = (ap (judging kind) (append-nil nodes), ap (λ ns. length (judged_on kind ns)) (append-nil nodes))
decided_all kind nodes (n ∷ ns) h = grind (arith, common_steps, decided_more, append_assoc, plays_more, decided_none, decided_all kind (nodes ++ n ∷ []) ns (subst IsDecided (sym (decided_more kind nodes n h)) h))

-- no verdict is held while it isn't known
no_verdict : (ended : Option Verdict) (r : States) → IsUndecided (judged r ended) → ended ≡ None
no_verdict ended r undecided = grind (arith, common_steps)

-- what a judge says of one node more
module _ (ended : Option Verdict) (referee : Option States) (r : States) (plays : ℕ) (now : Judging) (view : record { judgement = judgement_of ended referee; plays = plays } ≡ now) (is : referee ≡ Some r) where
  stood : now.judgement ≡ judged r ended
  stood = sym (ap (λ (j : Judging). j.judgement) view) ∙ ap (judgement_of ended) is

  pub side_stood : r.present.colouring.side ≡ side_in now.judgement
  side_stood = sym (ap side_in stood)

  -- a line that doesn't have so many nodes is as it was
  pub back_past : (count : ℕ) → length r.earlier < count → judged r ended ≡ back count now.judgement
  back_past count past = rw (stood, lt-leb count (length r.earlier) past) refl

  -- back to nodes that it has
  pub gone_back : (count : ℕ) (new : States) → count ≤ length r.earlier → new ≡ back_to r count → judged new None ≡ back count now.judgement
  gone_back count new le is_new = ap (λ s. judged s None) is_new ∙ sym (ap (back count) stood ∙ back_within count r ended le)

  -- the same as before
  pub untaken : (new : States) → new ≡ r → record { judgement = judgement_of ended (Some new); plays = plays } ≡ now
  untaken new same = grind (arith, common_steps)

  module _ (undecided : IsUndecided now.judgement) where
    none : ended ≡ None
    none = no_verdict ended r (subst IsUndecided stood undecided)

    open_before : now.judgement ≡ judged r None
    open_before = stood ∙ ap (judged r) none

    pub leads_to : (node : Node) (s : State) → step r.present node ≡ Ok s → state_after now.judgement node ≡ Some s
    leads_to node s took = ap (λ j. state_after j node) open_before ∙ ap state_of took

    pub leads_on : (node : Node) (new : States) → step r.present node ≡ Ok new.present → new ≡ followed_by r new.present → judged new ended ≡ after now.judgement node
    leads_on node new took added = grind (arith, common_steps, none, open_before)

    -- a step that was refused decides the verdict
    pub refused : (node : Node) (reason : Reason) (turn place : ℕ) (new : States) → step r.present node ≡ Err reason → new ≡ r → turn ≡ new.present.turns → node.place ≡ place
        → judged new (Some (Illegal (turn + 1) place reason)) ≡ after now.judgement node
    refused node reason turn place new took same turn_is place_is = search rules

    pub leads_nowhere : (node : Node) (reason : Reason) → step r.present node ≡ Err reason → state_after now.judgement node ≡ None
    leads_nowhere node reason took = ap (λ j. state_after j node) open_before ∙ ap state_of took
