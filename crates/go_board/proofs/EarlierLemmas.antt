-- A referee has as many earlier states as it keeps something of.
use Rattle.go_board.proofs.Common.{◌≡◌, ℕ, suc, ◌+◌, ◌-◌, ◌<◌, ◌≤◌, get_or, Bool, true, false, cond, List, [], ◌∷◌, ◌++◌, length, length-append, reverse, refl, sym, ap, ◌∙◌, arith, get_or-reverse, length-reverse, reverse-append, Grid, empty_grid, Held, PastColourings, newest_grid, only, with_next, AllHaveSide, HaveSide, Earlier, State, HadSameBoardSince, begun, grew, past_before, past_of_older, states_before, turns_before, turn_count, state_of, states_of, followed_by, IsRefereeKept, Call, from_bool, turned}
use Rattle.go_board.specs.declared.referee.Call.TheVariants.{Stay}
use Rattle.go_board.specs.declared.referee.Mover.{Mover}

length-states_before : (past : PastColourings) (turns : ℕ) (es : List Earlier) → length (states_before past turns es) ≡ length es
length-states_before past turns [] = refl
length-states_before past turns (e ∷ es) = ap suc (length-states_before (past_before past e) (turns_before turns e) es)

pub length-earlier : (past : PastColourings) (turns : ℕ) (es : List Earlier) → length (states_before past turns (reverse es)) ≡ length es
length-earlier past turns es = length-states_before past turns (reverse es) ∙ length-reverse es

-- no more calls were turns than there were calls
pub turns_at_most : (es : List Earlier) → turn_count es ≤ length es
turns_at_most [] = omega arith
turns_at_most (e ∷ es) = by (turned e.call) (turns_at_most es)
  where
    by : (b : Bool) → turn_count es ≤ length es → from_bool b + turn_count es ≤ suc (length es)
    by true h = omega (arith, h)
    by false h = omega (arith, h)

-- a past with its newest colouring taken back, if a call had added it
abbrev IsOneSided : ℕ → ℕ → PastColourings → Type 0
IsOneSided side n past = ((newest_grid past).side ≡ side) × HaveSide side past × (n ≤ length past.older)

older_sided : (side n : ℕ) (past : PastColourings) (older : List Held) → AllHaveSide side older → suc n ≤ length older → IsOneSided side n (past_of_older past older)
older_sided side n past older sides few = grind arith

before_sided : (side n : ℕ) (past : PastColourings) (grew : Bool) → HaveSide side past → cond grew 1 0 + n ≤ length past.older → IsOneSided side n (cond grew (past_of_older past past.older) past)
before_sided side n past grew sides few = grind (arith, older_sided)

-- what a referee keeps once its newest call is taken back
pub IsRefereeKept-back : (past now : PastColourings) (mover : Mover) (turns : ℕ) (earlier less : List Earlier) (kept : Earlier) → earlier ≡ less ++ kept ∷ [] → now ≡ past_before past kept → IsRefereeKept past mover turns (reverse earlier)
    → IsRefereeKept now kept.mover (turns_before turns kept) (reverse less)
IsRefereeKept-back past now mover turns earlier less kept parts is whole = grind (arith, before_sided, reverse-append, turns_at_most)

-- once the past grew by a colouring, and what was had of the state before is kept
module _ (past : PastColourings) (mover : Mover) (turns : ℕ) (earlier : List Earlier) (call : Call) (grown_by : grew call ≡ true) (turns' : ℕ) (more : turns' ≡ from_bool (turned call) + turns) where
  abbrev saved : Earlier
  saved = record { mover = mover; call = call }

  less : turns' - from_bool (turned call) ≡ turns
  less = omega (arith, more)

  -- what a referee keeps then
  pub IsRefereeKept-grown : IsRefereeKept past mover turns (reverse earlier) → (now : PastColourings) (made : Grid) (begins : Bool) (next : Mover) (earlier' : List Earlier) → now ≡ with_next past made begins → made.side ≡ (newest_grid past).side → earlier' ≡ earlier ++ saved ∷ [] → IsRefereeKept now next turns' (reverse earlier')
  IsRefereeKept-grown kept now made begins next earlier' is side longer = grind (arith, reverse-append, less)

  -- and the states that it is seen as
  pub states_of-grown : (now : PastColourings) (made : Grid) (begins : Bool) (next : Mover) (earlier' : List Earlier) → now ≡ with_next past made begins → earlier' ≡ earlier ++ saved ∷ [] → states_of now next turns' earlier' ≡ followed_by (states_of past mover turns earlier) (state_of (with_next past made begins) next turns')
  states_of-grown now made begins next earlier' is longer = rw (is, longer, reverse-append earlier (saved ∷ []), grown_by, less) refl

-- at the beginning of a game: a past of the empty board alone, and no earlier states
module _ (side : ℕ) (past : PastColourings) (earlier : List Earlier) (is : past ≡ only (empty_grid side)) (none : earlier ≡ []) where
  pub IsRefereeKept-begun : IsRefereeKept past Mover.Black 0 (reverse earlier)
  IsRefereeKept-begun = rw (is, none) (record { one_side = (refl, tt); enough = omega arith; few_turns = omega arith; counted = refl; from_start = refl })

  pub states_of-begun : states_of past Mover.Black 0 earlier ≡ begun side
  states_of-begun = rw (is, none) refl

-- while no call made the past grow, the board stayed
pub same_since : (past : PastColourings) (turns n : ℕ) (es : List Earlier) (d : Earlier) → ((i : ℕ) → i < n → grew (get_or es i d).call ≡ false) → (later older : List State) (before : State) → states_before past turns es ≡ later ++ before ∷ older → length later < n → before.colouring ≡ newest_grid past
same_since past turns n [] d still [] older before is few = absurd cc
same_since past turns n [] d still (state ∷ later) older before is few = absurd cc
same_since past turns n (e ∷ es) d still [] older before is few =
    let head : before ≡ state_of (past_before past e) e.mover (turns_before turns e) = cc in
    ap (λ (s : State). s.colouring) head ∙ rw (still 0 few) refl
same_since past turns n (e ∷ es) d still (state ∷ later) older before is few =
    let same : past_before past e ≡ past = rw (still 0 (omega (arith, few))) refl in
    let rest : states_before (past_before past e) (turns_before turns e) es ≡ later ++ before ∷ older = cc in
    same_since past (turns_before turns e) (n - 1) es d (λ i below. still (suc i) (omega (arith, below))) later older before
    (ap (λ p. states_before p (turns_before turns e) es) (sym same) ∙ rest) (omega (arith, few))

pub same_board_since : (past : PastColourings) (mover : Mover) (turns : ℕ) (items : List Earlier) (count depth : ℕ) → count ≤ depth → ((d : Earlier) (i : ℕ) → count ≤ i → i < length items → grew (get_or items i d).call ≡ false) → HadSameBoardSince (states_of past mover turns items) depth
same_board_since past mover turns items count depth le still later older before at enough =
    let d : Earlier = record { mover = mover; call = Stay } in
    let long : length items ≡ length later + (1 + length older) =
    sym (length-earlier past turns items) ∙ ap length at ∙ length-append later (before ∷ older) ∙ omega arith in
    same_since past turns (length later + 1) (reverse items) d
    (λ i below.
    let within : i < length items = omega (arith, below, long) in
    ap (λ (e : Earlier). grew e.call) (get_or-reverse items i d within)
    ∙ still d (length items - 1 - i) (omega (arith, below, long, le, enough)) (omega (arith, within)))
    later older before at (omega arith)
