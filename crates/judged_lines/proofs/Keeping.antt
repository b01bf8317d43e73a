-- What is held of a line is kept of the next one, as far as it begins alike.
use Rattle.judged_lines.proofs.Common.{◌≡◌, ℕ, suc, ◌+◌, ◌<◌, ◌≤◌, List, [], ◌∷◌, length, take, map, slice_get, Option, Some, refl, ap, arith, add-one, length-append, rules, length-take-le, common_steps, take-map, node_at, Node, Front, CursorState, advanced, Continues, line_in, line_before, nodes_before, path_before, lines, SequencesState, SharesFront, HasFront, IsHeldOf, GameKind, game_kind, root_properties, Judgement, judging, HoldsLine, LegalNode, legal_on, back, front_kept, named_in, as_long}
use Rattle.std.proofs.lemmas.List.FromFn.{length-range_with_len}
use Rattle.judged_lines.proofs.Walking.{same_root}
use Rattle.judged_lines.proofs.Judgements.{judging_back, taken_cut}

-- the judgement on a line after its first nodes, and the legal ones of them
abbrev pub judging_front : List Node → ℕ → Judgement
judging_front nodes count = judging (game_kind (root_properties nodes)) (take count nodes)

abbrev pub taken_front : List Node → ℕ → List LegalNode
taken_front nodes count = legal_on (game_kind (root_properties nodes)) (take count nodes)

-- a judgement can be cut back to the first `count` of a line's nodes; if `count` is 0, nothing is known
abbrev pub KeepsJudgement : List Node → ℕ → Judgement → Type 0
KeepsJudgement nodes count judgement = 0 < count → back count judgement ≡ judging_front nodes count

-- legal nodes are kept that begin with those of a line's first `count` nodes; if `count` is 0, nothing is known
abbrev pub KeepsTaken : (GameKind → List LegalNode → Type 0) → List Node → ℕ → Type 0
KeepsTaken keeps nodes count =
    0 < count → (taken : List LegalNode) × keeps (game_kind (root_properties nodes)) taken × (take count taken ≡ taken_front nodes count)

some_inj : (xs ys : List Node) → map Some xs ≡ map Some ys → xs ≡ ys
some_inj [] [] e = refl
some_inj [] (y ∷ ys) e = absurd cc
some_inj (x ∷ xs) [] e = absurd cc
some_inj (x ∷ xs) (y ∷ ys) e = let head : x ≡ y = cc in let rest = some_inj xs ys cc in cc

-- paths that share a front name the same nodes there
pub same_front : (f : ℕ → Option Node) (old new : List ℕ) (was nodes : List Node) (kept : ℕ) → map Some was ≡ map f old → map Some nodes ≡ map f new → Continues old kept new
    → take kept was ≡ take kept nodes
same_front f old new was nodes kept e g h = grind (arith, common_steps, front_kept old kept new h, take-map Some kept was, take-map f kept old, take-map f kept new, take-map Some kept nodes, some_inj)

-- what is held of a line is held of another one that begins alike
module _ (old nodes : List Node) (count : ℕ) (some : 0 < count) (within : count ≤ length old) (same : take count old ≡ take count nodes) where
  kinds : game_kind (root_properties old) ≡ game_kind (root_properties nodes)
  kinds = ap game_kind (same_root count old nodes some within same)

  judged_same : (judgement : Judgement) → judgement ≡ judging (game_kind (root_properties old)) old → back count judgement ≡ judging_front nodes count
  judged_same judgement h = grind (arith, common_steps, judging_back, kinds)

  taken_same : (keeps : GameKind → List LegalNode → Type 0) → keeps (game_kind (root_properties old)) (legal_on (game_kind (root_properties old)) old)
      → (taken : List LegalNode) × keeps (game_kind (root_properties nodes)) taken × (take count taken ≡ taken_front nodes count)
  taken_same keeps h = search (rules, kinds, taken_cut)

-- the cursor went on by a line
named : (at : CursorState) → map Some (nodes_before at) ≡ map (node_at at.games) (path_before at)
named at = named_in at.games at.index

pub line_next : (at : CursorState) → line_before (advanced at) ≡ slice_get (lines at.games) at.index
line_next at = let next : at.index + 1 ≡ suc at.index = add-one at.index in ap (line_in at.games) next

-- a line that shares so many nodes with the line before it
module _ (old new : CursorState) (shared : ℕ) (moved : new ≡ advanced old) (continues : Continues (path_before old) shared (path_before new)) where
  many_new : length (nodes_before new) ≡ shared + (continues.more + 1)
  many_new = grind (arith, common_steps, as_long, length-append, length-range_with_len, length-take-le)

  pub some_node : 0 < length (nodes_before new)
  some_node = omega (arith, many_new)

  within : shared ≤ length (nodes_before new)
  within = omega (arith, many_new)

  within_old : shared ≤ length (nodes_before old)
  within_old = omega (arith, as_long old, continues.kept_within)

  pub same_nodes : take shared (nodes_before old) ≡ take shared (nodes_before new)
  same_nodes = grind (arith, common_steps, named new, named old, same_front)

-- the front that a line shares with the line before it
pub has_front : (old new : SequencesState) (shared : Front) → SharesFront old new shared → HasFront new.ends shared
has_front old new shared h = grind (arith, common_steps)

-- a part of what is held of a line
pub held_part : (holds part : SequencesState → Type 0) (cursor : SequencesState) (front : Front) → ((old : SequencesState) → holds old → part old) → IsHeldOf holds cursor front → IsHeldOf part cursor front
held_part holds part cursor front of known5 = grind (arith, common_steps)

module _ (holds : SequencesState → Type 0) (cursor : SequencesState) (front : Front) (held : IsHeldOf holds cursor front) where
  -- some nodes are held, of the line before
  pub by_old : (P : Type 0) → 0 < front.sequences → ((old : SequencesState) → holds old → cursor.at ≡ advanced old.at → SharesFront old cursor front → P) → P
  by_old P some of = grind (arith, common_steps)

  some_front : 0 < front.nodes → 0 < front.sequences
  some_front known = search rules

  module _ (keeps : GameKind → List LegalNode → Type 0) (j : Judgement) (of : (old : SequencesState) → holds old → HoldsLine keeps j old) where
    pub judgement_kept : KeepsJudgement (nodes_before cursor.at) front.nodes j
    judgement_kept some =
        by_old (back front.nodes j ≡ judging_front (nodes_before cursor.at) front.nodes) (some_front some) (λ old h moved shares.
        judged_same (nodes_before old.at) (nodes_before cursor.at) front.nodes some (within_old old.at cursor.at front.nodes moved shares.nodes)
        (same_nodes old.at cursor.at front.nodes moved shares.nodes) j (of old h).judged)

    pub taken_kept : KeepsTaken keeps (nodes_before cursor.at) front.nodes
    taken_kept some =
        let nodes = nodes_before cursor.at in
        by_old ((taken : List LegalNode) × keeps (game_kind (root_properties nodes)) taken × (take front.nodes taken ≡ taken_front nodes front.nodes)) (some_front some) (λ old h moved shares.
        taken_same (nodes_before old.at) nodes front.nodes some (within_old old.at cursor.at front.nodes moved shares.nodes) (same_nodes old.at cursor.at front.nodes moved shares.nodes) keeps (of old h).taken)
