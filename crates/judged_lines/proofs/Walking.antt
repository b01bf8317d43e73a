-- A walk along a line ends with the first node whose step is refused, or with the last node. The judged nodes are a front of the line.
use Rattle.judged_lines.proofs.Common.{common_steps, map-append, Node, Reason, State, starting, GameKind, not_go, bad_size, board, game_kind, root_properties, step, verdict_at, score_in, judged_on, IllegalNode, Walk, before_root, next, walk, IsAfter, no_node, one_node, HasIllegal, judged_by, ◌≡◌, ℕ, ◌+◌, List, [], ◌∷◌, ◌++◌, Some, None, Result, Ok, Err, refl, ap, ◌∙◌, ◌⊎◌, inl, inr, zero, suc, ◌<◌, ◌≤◌, length, take, Option, sym, arith, append_assoc, append-nil, fold, fold-append}
use Rattle.judged_lines.specs.declared.verdict.Verdict.TheVariants.{Illegal}
use Rattle.judged_lines.specs.Walk.{stepped, next_by}

-- the walk has met no illegal node, and leads to that state
pub record StandsAfter (w : Walk) (s : State) : Type 0 where
  pub no_illegal : w.illegal ≡ None
  pub state : w.state ≡ s

pub scores_there : (w : Walk) (s : State) → StandsAfter w s → verdict_at w ≡ score_in s
scores_there w s h = rw (h.no_illegal, h.state)

module _ (w : Walk) (s : State) (h : StandsAfter w s) (n : Node) where
  pub next_is : (r : Result State Reason) → step s n ≡ r → next w n ≡ stepped w n r
  next_is r e = ap (λ f. next_by w f n) h.no_illegal ∙ ap (λ t. stepped w n (step t n)) h.state ∙ ap (stepped w n) e

  pub goes_on : (t : State) → step s n ≡ Ok t → StandsAfter (next w n) t
  goes_on t e = let is = next_is (Ok t) e in record { no_illegal = ap (λ (v : Walk). v.illegal) is; state = ap (λ (v : Walk). v.state) is }

  pub ends_at : (r : Reason) → step s n ≡ Err r → verdict_at (next w n) ≡ Illegal (s.turns + 1) n.place r
  ends_at r e = cc (next_is (Err r) e)

-- after an illegal node nothing changes
pub after_illegal : (w : Walk) (f : IllegalNode) (ns : List Node) → w.illegal ≡ Some f → fold next w ns ≡ w
after_illegal w f [] e = refl
after_illegal w f (n ∷ ns) e = ap (λ v. fold next v ns) (ap (λ o. next_by w o n) e) ∙ after_illegal w f ns e

goes_along : {s u : State} {ns : List Node} → IsAfter s ns u → (w : Walk) → StandsAfter w s → StandsAfter (fold next w ns) u
goes_along no_node w h = h
goes_along (one_node {from = s} {between = t} {node = n} e rest) w h = goes_along rest (next w n) (goes_on w s h n t e)

at_beginning : (side : ℕ) → StandsAfter (before_root side) (starting side)
at_beginning side = record { no_illegal = refl; state = refl }

pub scores : (side : ℕ) (nodes : List Node) (s : State) → IsAfter (starting side) nodes s → verdict_at (walk side nodes) ≡ score_in s
scores side nodes s h = scores_there (walk side nodes) s (goes_along h (before_root side) (at_beginning side))

pub refuses : (side : ℕ) (before after : List Node) (n : Node) (s : State) (reason : Reason) → IsAfter (starting side) before s → step s n ≡ Err reason
    → verdict_at (walk side (before ++ n ∷ after)) ≡ Illegal (s.turns + 1) n.place reason
refuses side before after n s reason h e = grind (arith, common_steps, goes_along, at_beginning, next_is, fold-append, after_illegal, ends_at)

-- each list of nodes is of one kind or the other
later : (s t : State) (n : Node) (ns : List Node) → step s n ≡ Ok t → ((u : State) × IsAfter t ns u) ⊎ HasIllegal t ns → ((u : State) × IsAfter s (n ∷ ns) u) ⊎ HasIllegal s (n ∷ ns)
later s t n ns e h = elim h [
  | inl whole ↦ inl (whole.0, one_node e whole.1)
  | inr f ↦ inr (record {
    before = n ∷ f.before;
    illegal = f.illegal;
    after = f.after;
    are = ap (λ ms. n ∷ ms) f.are;
    state = f.state;
    leads = one_node e f.leads;
    reason = f.reason;
    refused = f.refused;
  })
]

pub ends : (s : State) (nodes : List Node) → ((u : State) × IsAfter s nodes u) ⊎ HasIllegal s nodes
ends s [] = inl (s, no_node)
ends s (n ∷ ns) = by (step s n) refl (λ t. ends t ns)
  where
    by : (r : Result State Reason) → step s n ≡ r → ((t : State) → ((u : State) × IsAfter t ns u) ⊎ HasIllegal t ns) → ((u : State) × IsAfter s (n ∷ ns) u) ⊎ HasIllegal s (n ∷ ns)
    by (Ok t) e rest = later s t n ns e (rest t)
    by (Err reason) e rest = inr (record { before = []; illegal = n; after = ns; are = refl; state = s; leads = no_node; reason = reason; refused = e })

-- one node, where there is no illegal one before it
abbrev one_if : Option IllegalNode → ℕ → ℕ
one_if (Some f) n = 0
one_if None n = suc n

-- how many nodes are judged on the way from a walk on
abbrev more_judged : Walk → List Node → ℕ
more_judged w [] = 0
more_judged w (n ∷ ns) = one_if w.illegal (more_judged (next w n) ns)

pub one_judged : (w : Walk) (n : Node) → w.illegal ≡ None → judged_by (next w n) ≡ judged_by w ++ n ∷ []
one_judged w n none = grind (arith, common_steps, append-nil, map-append)

judged_fold : (w : Walk) (ns : List Node) → judged_by (fold next w ns) ≡ judged_by w ++ take (more_judged w ns) ns
judged_fold w [] = sym (append-nil (judged_by w))
judged_fold w (n ∷ ns) = by w.illegal refl (judged_fold (next w n) ns)
  where
    by : (o : Option IllegalNode) → w.illegal ≡ o → judged_by (fold next (next w n) ns) ≡ judged_by (next w n) ++ take (more_judged (next w n) ns) ns
        → judged_by (fold next w (n ∷ ns)) ≡ judged_by w ++ take (more_judged w (n ∷ ns)) (n ∷ ns)
    by (Some f) e rest = ap judged_by (after_illegal w f (n ∷ ns) e) ∙ sym (append-nil (judged_by w))
        ∙ ap (λ o. judged_by w ++ take (one_if o (more_judged (next w n) ns)) (n ∷ ns)) (sym e)
    by None e rest =
        rest ∙ ap (λ l. l ++ take (more_judged (next w n) ns) ns) (one_judged w n e)
        ∙ append_assoc (judged_by w) (n ∷ []) (take (more_judged (next w n) ns) ns)
        ∙ ap (λ o. judged_by w ++ take (one_if o (more_judged (next w n) ns)) (n ∷ ns)) (sym e)

-- those on the way along a front
judged_take : (w : Walk) (k : ℕ) (ns : List Node) → take (more_judged w (take k ns)) (take k ns) ≡ take k (take (more_judged w ns) ns)
judged_take w zero ns = refl
judged_take w (suc k) [] = refl
judged_take w (suc k) (n ∷ ns) = grind (arith, common_steps, judged_take (next w n) k ns)

-- the judged nodes are the first ones
pub judged_front : (said : GameKind) (nodes : List Node) → (m : ℕ) × (judged_on said nodes ≡ take m nodes)
judged_front not_go nodes = (0, refl)
judged_front bad_size nodes = (0, refl)
judged_front (board side) nodes = (more_judged (before_root side) nodes, judged_fold (before_root side) nodes)

-- and which of a front they are is seen in it
pub judged_of_front : (said : GameKind) (nodes : List Node) (k : ℕ) → take k (judged_on said nodes) ≡ judged_on said (take k nodes)
judged_of_front said nodes k = grind (arith, common_steps, judged_fold, judged_take)

-- nodes that begin alike have the same root
pub same_root : (shared : ℕ) (old nodes : List Node) → 0 < shared → shared ≤ length old → take shared old ≡ take shared nodes → root_properties old ≡ root_properties nodes
same_root shared old nodes lt le e = grind (arith, common_steps)

-- what lines share is judged alike
pub judged_alike : (old nodes : List Node) (k : ℕ) → k ≤ length old → take k old ≡ take k nodes
    → take k (judged_on (game_kind (root_properties nodes)) nodes) ≡ take k (judged_on (game_kind (root_properties old)) old)
judged_alike old nodes zero le same = refl
judged_alike old nodes (suc k) le same =
    let said = game_kind (root_properties old) in
    grind (arith, common_steps, same_root (suc k) old nodes (omega arith) le same, judged_of_front said nodes (suc k), judged_of_front said old (suc k))
