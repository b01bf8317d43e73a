-- The cursor went on to the next line, and so many nodes are played for that line.
use Rattle.judged_lines.proofs.Common.{◌≡◌, ℕ, ◌-◌, ◌<◌, length, Result, Err, ap, subst, arith, rules, Bool, IsErr, common_steps, Front, CursorState, nodes_before, path_before, Continues, SequencesState, Before, Unheld, Held, Refused, AreHeld, HasPlays, PlaysLine, StandsBy, index_by, PlaysUpTo, fresh_plays, advanced, SharesFront, line_is, some_before}
use Rattle.judged_lines.specs.GoingOn.{no_front}
use Rattle.judged_lines.proofs.Keeping.{some_node}
use Rattle.judged_lines.proofs.LineVerdicts.{some_line}

-- the cursor went on to the next line, of which this front is held
abbrev pub GoesOnBy : Before → SequencesState → SequencesState → Front → Type 0
GoesOnBy Unheld old new held = (new.at ≡ advanced old.at) × (held ≡ no_front) × ((shared : Front) × SharesFront old new shared)
GoesOnBy Held old new held = (new.at ≡ advanced old.at) × SharesFront old new held
GoesOnBy Refused old new held = (new ≡ old) × (held ≡ no_front)

-- the next line stands before the cursor
pub record IsNext (before : Before) (old new : SequencesState) (held : Front) : Type 0 where
  pub some_node : 0 < length (nodes_before new.at)
  pub are_held : AreHeld before old.at held.nodes
  pub games : new.at.games ≡ old.at.games
  pub index : new.at.index - 1 ≡ index_by before old.at.index

pub goes_on : (Holds : Type 0) (before : Before) (old new : SequencesState) (held : Front) → StandsBy before (nodes_before old.at) Holds → GoesOnBy before old new held → IsNext before old new held
goes_on Holds Unheld old new held stands go = record {
  some_node = some_node old.at new.at go.2.0.nodes go.0 go.2.1.nodes;
  are_held = ap (λ (f : Front). f.nodes) go.1;
  games = ap (λ (p : CursorState). p.games) go.0;
  index = omega (arith, ap (λ (p : CursorState). p.index) go.0);
}
goes_on Holds Held old new held stands go = record {
  some_node = some_node old.at new.at held.nodes go.0 go.1.nodes;
  are_held = subst (λ at. Continues (path_before old.at) held.nodes (path_before at)) go.0 go.1.nodes;
  games = ap (λ (p : CursorState). p.games) go.0;
  index = omega (arith, ap (λ (p : CursorState). p.index) go.0);
}
goes_on Holds Refused old new held stands go = search (rules, some_node)

pub has_plays : (before : Before) (old new : SequencesState) (held : Front) → IsNext before old new held → (counts : ℕ → ℕ) → HasPlays counts before old.at (counts (fresh_plays (nodes_before new.at) held.nodes))
has_plays before old new held next counts = grind (arith, common_steps, line_is, some_before, some_line)

-- what was counted for it
pub plays_refused : {E F : Type 0} (A : Type 0) (counts : ℕ → ℕ) (b : Before) (at : CursorState) (old new count : ℕ) (e : E) (r : Result Bool F) → IsErr r → HasPlays counts b at count
    → PlaysUpTo {A = A} old new count (Err e) → PlaysLine counts b at old new r
plays_refused A counts b at old new count e r bad h up = grind (arith, common_steps)
