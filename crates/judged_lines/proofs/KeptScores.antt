-- While no node changes the board, its score stays.
use Rattle.judged_lines.proofs.Common.{cases_lt, Grid, score_of, TurnFault, Reason, State, States, HadSameBoardSince, IsScoreAt, IsScoreOf, IsStepped, back_from, back_to, common_steps, ◌≡◌, ◌⊎◌, ℕ, ◌≤◌, min, inl, inr, List, [], ◌∷◌, ◌++◌, length, refl, ap, ◌∙◌, Option, Some, None, arith, rules, Result, false, is_some, false≢true}
use Rattle.board_stones.specs.declared.stones.Colour.TheVariants.{Black, White}
use Rattle.judged_lines.proofs.Judgements.{back_none, back_one, back_undone}

-- the board on the way back, if it stayed since
same_back : (g : Grid) (s : State) (es : List State) (depth d : ℕ) → depth ≤ d → s.colouring ≡ g → ((later older : List State) (before : State) → es ≡ later ++ before ∷ older → depth ≤ length older → before.colouring ≡ g) → (back_from s es d).present.colouring ≡ g
same_back g s [] depth d le is since = is
same_back g s (e ∷ es) depth d le is since =
    elim (cases_lt d (length (e ∷ es))) [
      | inl below ↦
          ap (λ (states : States). states.present.colouring) (back_one s e es d below)
          ∙ same_back g e es depth d le (since [] es e refl (omega (arith, le, below)))
          (λ later older before at enough. since (e ∷ later) older before (ap (λ (l : List State). e ∷ l) at) enough)
      | inr above ↦ ap (λ (states : States). states.present.colouring) (back_none (record { present = s; earlier = e ∷ es }) d above) ∙ is
    ]

length_back : (s : State) (es : List State) (d : ℕ) → d ≤ length es → length (back_from s es d).earlier ≡ d
length_back s [] d le = omega (arith, le)
length_back s (e ∷ es) d le = grind (arith, common_steps, cases_lt, back_one, back_none, length_back e es d)

-- back in two steps
back_back : (s : State) (es : List State) (count d : ℕ) → d ≤ count → back_to (back_from s es count) d ≡ back_from s es d
back_back s [] count d le = refl
back_back s (e ∷ es) count d le = search (rules, cases_lt, back_one, back_none, (back_back e es count d le))

-- the score of another state with the same board
on_same : (a b : State) (k : ℕ × ℕ) → a.colouring ≡ b.colouring → IsScoreOf a (Some k) → IsScoreOf b (Some k)
on_same a b k same is = (is.0 ∙ ap (λ g. score_of g Black) same, is.1 ∙ ap (λ g. score_of g White) same)

-- after a step
pub scored_stepped : {A : Type 0} (r : Result State Reason) (old new : States) (result : Result A TurnFault) (scored : ℕ) (score : Option (ℕ × ℕ)) → IsStepped r old new result → IsScoreAt old scored score → IsScoreAt new scored score
scored_stepped r old new result scored score stepped known = grind (arith, common_steps, back_undone)

-- on the present board
pub scored_now : (states : States) (scored : ℕ) (score : Option (ℕ × ℕ)) (k : ℕ × ℕ) → score ≡ Some k → IsScoreAt states scored score → HadSameBoardSince states scored → IsScoreOf states.present (Some k)
scored_now states scored score k is known since = search (rules, on_same, same_back)

-- and on the way back; there is nothing to say of no score
pub scored_back : (states : States) (count scored : ℕ) (score : Option (ℕ × ℕ)) → count ≤ length states.earlier → (scored ≤ count) ⊎ HadSameBoardSince states count → IsScoreAt states scored score → IsScoreAt (back_to states count) (min scored count) score
scored_back states count scored None fewer stays known = tt
scored_back states count scored (Some k) fewer stays known = search (rules, cases_lt, same_back, on_same, length_back, back_back)

pub scored_none : (states : States) (scored : ℕ) (score : Option (ℕ × ℕ)) → false ≡ is_some score → IsScoreAt states scored score
scored_none states scored None none = tt
scored_none states scored (Some k) none = absurd (false≢true none)
