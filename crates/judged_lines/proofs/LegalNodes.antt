-- Taken nodes are told one by one, and those of a line's front are kept for the next line.
use Rattle.judged_lines.proofs.Common.{◌≡◌, ℕ, zero, suc, ◌<◌, List, [], ◌∷◌, ◌++◌, take, Some, None, refl, sym, ap, subst, ◌∙◌, append-nil, append_assoc, rules, fold, arith, Node, Grid, State, LegalStep, GameKind, not_go, bad_size, board, game_kind, root_properties, Judgement, unjudged, judged, judging, begun_game, after, board_in, IsLegalStep, step, LegalNode, legal_on, IsDecided, state_after, legal_by, IsStepFrom, common_steps, NotGo, BadSize}
use Rattle.judged_lines.specs.inner.Judging.{side_in}
use Rattle.judged_lines.proofs.Steps.{side-step}
use Rattle.judged_lines.proofs.Keeping.{KeepsTaken, judging_front, taken_front}
use Rattle.judged_lines.proofs.Judgements.{judging_more, decided_none, decided_more, unjudged_stays, taken_more, taken_only, board_after}

-- no more nodes are taken once the verdict is known
pub taken_decided : (kind : GameKind) (nodes more : List Node) → IsDecided (judging kind nodes) → legal_on kind (nodes ++ more) ≡ legal_on kind nodes
taken_decided kind nodes [] h = ap (legal_on kind) (append-nil nodes)
taken_decided kind nodes (n ∷ ns) h = search (rules, decided_none, append_assoc, decided_more, taken_more, append-nil, (taken_decided kind (nodes ++ n ∷ []) ns (subst IsDecided (sym (decided_more kind nodes n h)) h)))

-- each board of a game has its side
abbrev HasSide : ℕ → Judgement → Type 0
HasSide side (unjudged told) = Unit {0}
HasSide side (judged states ended) = states.present.colouring.side ≡ side

keeps_side : (side : ℕ) (j : Judgement) (n : Node) → HasSide side j → HasSide side (after j n)
keeps_side side j n h = search (rules, side-step)

has_side : (side : ℕ) (j : Judgement) (nodes : List Node) → HasSide side j → HasSide side (fold after j nodes)
has_side side j [] h = h
has_side side j (n ∷ ns) h = has_side side (after j n) ns (keeps_side side j n h)

-- a game that has this board is judged on its side
kind_there : (kind : GameKind) (nodes : List Node) (grid : Grid) → board_in (judging kind nodes) ≡ Some grid → kind ≡ board grid.side
kind_there not_go nodes grid there = absurd (let none = ap board_in (unjudged_stays NotGo nodes) in cc)
kind_there bad_size nodes grid there = absurd (let none = ap board_in (unjudged_stays BadSize nodes) in cc)
kind_there (board side) nodes grid there = grind (arith, common_steps, has_side side (begun_game (board side)) nodes refl)

-- a step that a judge told of
side_after : (j : Judgement) (n : Node) (s : State) → state_after j n ≡ Some s → side_in j ≡ s.colouring.side
side_after j n s e = let t = taken_only j n s e in ap side_in t.1 ∙ sym (side-step t.0.present s n t.2)

-- a node is told if its step was taken
module _ (kind : GameKind) (nodes : List Node) (n : Node) (j : Judgement) (is : j ≡ judging kind nodes) where
  taken_next : legal_on kind nodes ++ legal_by (state_after j n) n ≡ legal_on kind (nodes ++ n ∷ [])
  taken_next = ap (λ k. legal_on kind nodes ++ legal_by (state_after k n) n) is ∙ sym (taken_more kind nodes n)

  pub untaken : state_after j n ≡ None → legal_on kind nodes ≡ legal_on kind (nodes ++ n ∷ [])
  untaken none = sym (append-nil (legal_on kind nodes)) ∙ ap (λ o. legal_on kind nodes ++ legal_by o n) (sym none) ∙ taken_next

  pub told_last : (s : State) → state_after j n ≡ Some s → legal_on kind nodes ++ record { node = n; after = s } ∷ [] ≡ legal_on kind (nodes ++ n ∷ [])
  told_last s taken = ap (λ o. legal_on kind nodes ++ legal_by o n) (sym taken) ∙ taken_next

  pub is_taken : (step : LegalStep) (grid : Grid) (taken : IsStepFrom j n (Some step)) → Some grid ≡ board_in (after j n) → IsLegalStep kind grid step (record { node = n; after = taken.0 })
  is_taken step grid taken there =
      let both : Some grid ≡ Some taken.0.colouring = there ∙ board_after j n taken.0 taken.1 in
      let same : grid ≡ taken.0.colouring = cc in
      let next : board_in (judging kind (nodes ++ n ∷ [])) ≡ Some grid = ap board_in (judging_more kind nodes n ∙ ap (λ k. after k n) (sym is)) ∙ sym there in
      search (rules, board_after, judging_more, kind_there, side_after)

-- what is kept of a line is told of its first nodes
told_none : (kind : GameKind) → legal_on kind [] ≡ []
told_none kind = grind (arith, common_steps)

pub told_front : (keeps tells : GameKind → List LegalNode → Type 0) (nodes : List Node) (held : ℕ) (j : Judgement) → j ≡ judging_front nodes held
    → (held ≡ 0 → (kind : GameKind) → board_in j ≡ board_in (begun_game kind) → tells kind []) → (0 < held → (kind : GameKind) (taken : List LegalNode) → keeps kind taken → tells kind (take held taken))
    → KeepsTaken keeps nodes held → tells (game_kind (root_properties nodes)) (taken_front nodes held)
told_front keeps tells nodes zero j is begun kept h =
    let kind = game_kind (root_properties nodes) in subst (tells kind) (sym (told_none kind)) (begun refl kind (ap board_in is))
told_front keeps tells nodes (suc held) j is begun kept h = search rules
