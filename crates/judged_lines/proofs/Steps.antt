-- A node's step by what is gathered of it.
use Rattle.judged_lines.proofs.Common.{◌≡◌, ◌⊎◌, ◌<◌, ℕ, Option, Some, None, List, [], ◌∷◌, length, Ok, Err, refl, sym, ap, ◌∙◌, arith, rules, Result, option_and_then, IsSome, common_steps, Node, SetupOp, Colour, TurnFault, Reason, States, turned, followed_by, State, Nothing, Meant, IsEffectBy, AreMoves, setup_effect, moves, stones, players, player_value, operations, last_player, turn_step, move_step, setup_step, step_by, step, IsSetup, IsStepped, Move, Stones, IsErrOf, ◌↔◌}
use Rattle.go_board.specs.declared.referee.plays.Play.{Play}
use Rattle.go_board.specs.declared.fault.TurnFault.TheVariants.{Illegal, Memory}
use Rattle.go_board.specs.Reason.{reason_of}
use Rattle.judged_lines.specs.Step.{side_in}
use Rattle.go_board.proofs.TurnLemmas.{side-set_up, side-turned}

pub stones_none : (side : ℕ) (ts : List Stones) → operations ts side ≡ Some [] → ts ≡ []
stones_none side [] e = refl
stones_none side (t ∷ ts) e = search rules

-- once a player was named, one is the last
some_last : (k : Colour) (raws : List (List ℕ)) → last_player (Some k) raws ≡ Some None → ⊥
some_last k [] e = cc
some_last k (raw ∷ raws) e = each (λ l. some_last l raws) (player_value raw) e
  where
    each : ((l : Colour) → last_player (Some l) raws ≡ Some None → ⊥) → (o : Option Colour) → option_and_then (λ l. last_player (Some l) raws) o ≡ Some None → ⊥
    each h None e = cc
    each h (Some l) e = h l e

pub players_none : (raws : List (List ℕ)) → last_player None raws ≡ Some None → raws ≡ []
players_none [] e = refl
players_none (raw ∷ raws) e = grind (arith, common_steps, some_last)

-- a turn that the referee took has no reason against it
pub no_reason : (o : Option Reason) → ((r : Reason) → o ≡ Some r → ⊥) → o ≡ None
no_reason o known = search rules

-- what there is to set up
pub something : (side : ℕ) (ops : List SetupOp) (player : Option Colour) (ts : List Stones) (ps : List (List ℕ)) → IsSetup side (Meant player) ops ts ps → (0 < length ops) ⊎ IsSome player
something side ops player ts ps h = grind (arith, common_steps, players_none, stones_none)

-- their effects
pub meant_effect : (side : ℕ) (ms : List Move) (ops : List SetupOp) (player : Option Colour) (ts : List Stones) (ps : List (List ℕ)) → AreMoves Nothing ms → IsSetup side (Meant player) ops ts ps
    → IsEffectBy side ms ts (setup_effect ops)
meant_effect side ms ops player ts ps known known2 = grind (arith, common_steps, stones_none)

-- a turn that was taken, or refused
pub takes_turn : (old new : States) (k : Colour) (play : Play) (u : Unit {0}) → ((r : Reason) → IsErrOf (Ok u) (Illegal r) ↔ (reason_of old.present k play ≡ Some r))
    → new ≡ followed_by old (turned old.present k play) → (turn_step old.present k play (reason_of old.present k play) ≡ Ok new.present) × (new ≡ followed_by old new.present)
takes_turn old new k play u h e =
    let none : reason_of old.present k play ≡ None = no_reason (reason_of old.present k play) (λ r is. let bad : Ok u ≡ Err (Illegal r) = (h r).1 is in cc) in
    let state : new.present ≡ turned old.present k play = ap (λ (s : States). s.present) e in
    (ap (turn_step old.present k play) none ∙ ap Ok (sym state), e ∙ ap (followed_by old) (sym state))

pub refuses_turn : (A : Type 0) (old new : States) (k : Colour) (play : Play) (fault : TurnFault)
    → ((r : Reason) → IsErrOf {T = Unit {0}} (Err fault) (Illegal r) ↔ (reason_of old.present k play ≡ Some r)) → new ≡ old
    → IsStepped {A = A} (turn_step old.present k play (reason_of old.present k play)) old new (Err fault)
refuses_turn A old new k play (Illegal r) h e = (ap (turn_step old.present k play) ((h r).0 refl), e)
refuses_turn A old new k play Memory h e = e

-- ---- What stays along a walk: the side of the board, and what was played.

-- a step leaves the side of the board
side-same : (s t : State) (u : State) → side_in u ≡ side_in s → (let r : Result State Reason = Ok u in r ≡ Ok t) → side_in t ≡ side_in s
side-same s t u side e = let same : u ≡ t = cc in ap side_in (sym same) ∙ side

side-move : (s t : State) (k : Colour) (x : Option Play) → move_step s k x ≡ Ok t → side_in t ≡ side_in s
side-move s t k x known = search (rules, side-same, side-turned)

side-setup : (s t : State) (o : Option (List SetupOp)) (last : Option (Option Colour)) → setup_step s o last ≡ Ok t → side_in t ≡ side_in s
side-setup s t o last known = grind (arith, common_steps, side-same, side-set_up)

side-by : (s t : State) (ms : List Move) (ts : List Stones) (ps : List (List ℕ)) → step_by s ms ts ps ≡ Ok t → side_in t ≡ side_in s
side-by s t ms ts ps known = grind (arith, common_steps, side-move, side-same, side-setup)

pub side-step : (s t : State) (n : Node) → step s n ≡ Ok t → side_in t ≡ side_in s
side-step s t n e = side-by s t (moves n) (stones n) (players n) e
