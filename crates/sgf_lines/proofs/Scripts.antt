-- A script goes on by a node, and back to the first ones; and what is put of it.
use Rattle.sgf_lines.proofs.Common.{list_any, position_or_len, common_steps, map-append, take-map, length-map, position_or_len_push, Node, Grid, State, GameKind, LegalNode, legal_on, comment_rows, legal_script, text_rows, comment_text, leaves_unreaching, commands_by, step_script, is_unreaching, no_script, said_on, script_back, script_text, script_of, ◌≡◌, ℕ, zero, suc, min, List, [], ◌∷◌, ◌++◌, length, take, refl, ap, subst, arith, add-one, append-nil, rules, nat_lt, option_copied, lt-ltb}
use Rattle.judged_lines.specs.declared.judging.step.LegalStep.{LegalStep}
use Rattle.judged_lines.specs.Judgement.{IsStepOf, IsLegalStep}
use Rattle.sgf_lines.proofs.Recordings.{joined}

-- the pieces before those that can't be said
lt_suc : (a n : ℕ) → nat_lt (suc a) (suc n) ≡ nat_lt a n
lt_suc a n = search rules

any_is : (ts : List LegalNode) → nat_lt (position_or_len leaves_unreaching ts) (length ts) ≡ list_any leaves_unreaching ts
any_is [] = refl
any_is (t ∷ ts) = grind (arith, common_steps, lt-ltb, lt_suc, any_is ts)

position_front : (n : ℕ) (ts : List LegalNode) → position_or_len leaves_unreaching (take n ts) ≡ min n (position_or_len leaves_unreaching ts)
position_front zero ts = omega arith
position_front (suc n) [] = omega arith
position_front (suc n) (t ∷ ts) = grind (arith, common_steps, position_front n ts)

-- back to the first ones
no_script_back : (n : ℕ) → script_back n no_script ≡ no_script
no_script_back n = search rules

-- the script of a game whose root says this
pub script_put : (kind : GameKind) (nodes : List Node) → script_text (script_of kind (legal_on kind nodes)) ≡ commands_by kind nodes
script_put kind nodes = search (rules, any_is, joined, length-map, lt_suc)

pub script_cut : (kind : GameKind) (taken : List LegalNode) (n : ℕ) → script_back n (script_of kind taken) ≡ script_of kind (take n taken)
script_cut kind taken n = search (rules, no_script_back, add-one, position_front, take-map)

script_more : (kind : GameKind) (taken : List LegalNode) (t : LegalNode) → said_on (script_of kind taken) (leaves_unreaching t) (legal_script t) ≡ script_of kind (taken ++ t ∷ [])
script_more kind taken t = grind (arith, common_steps, length-map, map-append, position_or_len_push)

-- what a step says of its node
module _ (s : State) (n : Node) (taken : LegalStep) (h : IsStepOf s.colouring.side n taken) where
  comment : text_rows (comment_text (option_copied taken.comment)) ≡ comment_rows n
  comment = ap (λ o. text_rows (comment_text o)) h.comment_is

  step_says : step_script s.colouring taken ≡ legal_script (record { node = n; after = s })
  step_says = grind (arith, common_steps, comment, append-nil)

  step_unreaching : is_unreaching s.colouring taken.effect ≡ leaves_unreaching (record { node = n; after = s })
  step_unreaching = grind (arith, common_steps)

-- a step that was taken
module _ (kind : GameKind) (grid : Grid) (step : LegalStep) (t : LegalNode) (h : IsLegalStep kind grid step t) where
  on_side : IsStepOf t.after.colouring.side t.node step
  on_side = subst (λ (g : Grid). IsStepOf g.side t.node step) h.board_is h.step_is

  pub says : (taken : List LegalNode) → said_on (script_of kind taken) (is_unreaching grid step.effect) (step_script grid step) ≡ script_of kind (taken ++ t ∷ [])
  says taken = rw (h.board_is, step_unreaching t.after t.node step on_side, step_says t.after t.node step on_side) (script_more kind taken t)
