-- The next line stands before the cursor that went on, and was shown to the keeper.
use Rattle.judged_lines.proofs.Common.{◌≡◌, ◌<◌, length, refl, arith, Front, advanced, SequencesState, SharesFront, Before, Held, Refused, HasFront, common_steps, some_ends}
use Rattle.judged_lines.specs.GoingOn.{no_front}
use Rattle.judged_lines.proofs.GoingOn.{GoesOnBy, IsNext, goes_on, has_plays, plays_refused}
use Rattle.judged_lines.proofs.Keeping.{has_front}
use Rattle.judged_lines.proofs.over_lines.OverLines.next.Given.{Over}
use Rattle.judged_lines.proofs.over_lines.OverLines.next.Goals as goal
use Rattle.judged_lines.proofs.over_lines.OverLines.next.Goals.{After-len-nodes, in-Refused, in_default+in-Ok+in-Some+in-Held, in_default+in-Ok+in-Some+in_default-before}

unheld : (before : Before) (old new : SequencesState) (held shared : Front) → (before ≡ Refused → ⊥) → (before ≡ Held → ⊥) → new.at ≡ advanced old.at → held ≡ no_front → SharesFront old new shared
    → GoesOnBy before old new held
unheld before old new held shared not_refused not_held moved none shares = grind (arith, common_steps)

went : (g : Over) (c : After-len-nodes g) → GoesOnBy c.args.self.now.before c.args.self.now.cursor c.match-self.self.cursor c.match-self.held
went g c = elim c.match-self.branch [
  | in-Refused w ↦ rw (w.in-Refused.is, w.self-is) (refl, w.held-is)
  | in_default+in-Ok+in-Some+in-Held w ↦ rw (w.in-Held.is, w.self-is, w.held-is) (rw w.in-Some.is at w.in-Ok.ensures.moved, rw w.in-Some.is at w.in-Ok.ensures.shared)
  | in_default+in-Ok+in-Some+in_default-before w ↦ rw (w.self-is, w.held-is) (unheld c.args.self.now.before c.args.self.now.cursor _ _ w.in-Some.shared w.in_default.not-Refused w.in_default-before.not-Held (rw w.in-Some.is at w.in-Ok.ensures.moved) refl
      (rw w.in-Some.is at w.in-Ok.ensures.shared))
]

kept : (g : Over) (c : After-len-nodes g) → g.K.LineKeeper.played c.match-self.self.keeper ≡ g.K.LineKeeper.played c.args.self.now.keeper
kept g c = elim c.match-self.branch [
  | in-Refused w ↦ rw w.self-is refl
  | in_default+in-Ok+in-Some+in-Held w ↦ rw w.self-is refl
  | in_default+in-Ok+in-Some+in_default-before w ↦ rw w.self-is refl
]

next_is : (g : Over) (c : After-len-nodes g) → IsNext c.args.self.now.before c.args.self.now.cursor c.match-self.self.cursor c.match-self.held
next_is g c =
    let old = c.args.self.now in
    goes_on (g.K.LineKeeper.holds old.keeper old.cursor) old.before old.cursor c.match-self.self.cursor c.match-self.held c.requires.stands (went g c)

front : (before : Before) (old new : SequencesState) (held : Front) → GoesOnBy before old new held → 0 < length new.ends → HasFront new.ends held
front before old new held go some = grind (arith, common_steps, has_front)

pub returns-in_err-follow-clause-stands : goal.returns-in_err-follow-clause-stands
returns-in_err-follow-clause-stands g c = (next_is g (goal.at.returns-in_err-follow-clause-stands g c).After-len-nodes).some_node

pub returns-in_err-follow-clause-refused : goal.returns-in_err-follow-clause-refused
returns-in_err-follow-clause-refused g c = grind (arith, common_steps, next_is)

pub returns-in_err-follow-clause-plays : goal.returns-in_err-follow-clause-plays
returns-in_err-follow-clause-plays g c =
    let old = c.args.self.now in
    let at = (goal.at.returns-in_err-follow-clause-plays g c).After-len-nodes in
    plays_refused _ g.K.LineKeeper.counts old.before old.cursor.at (g.K.LineKeeper.played old.keeper) (g.K.LineKeeper.played c.follow.new.self) _ c.in_err-follow.field-0.0 c.from_residual.result
    c.from_residual.ensures.0 (has_plays old.before old.cursor c.match-self.self.cursor c.match-self.held (next_is g at) g.K.LineKeeper.counts) (rw (kept g at) at c.in_err-follow.ensures.plays)

pub returns-clause-stands : goal.returns-clause-stands
returns-clause-stands g c = ((next_is g (goal.at.returns-clause-stands g c).After-len-nodes).some_node, c.in_ok-follow.ensures.holds)

pub returns-clause-plays : goal.returns-clause-plays
returns-clause-plays g c =
    let at = (goal.at.returns-clause-plays g c).After-len-nodes in
    let old = c.args.self.now in
    (_, has_plays old.before old.cursor c.match-self.self.cursor c.match-self.held (next_is g at) g.K.LineKeeper.counts, (rw (kept g at) at c.in_ok-follow.ensures.plays).each)

pub follow-requires-clause-divided : goal.follow-requires-clause-divided
follow-requires-clause-divided g c = c.sequences-sequences.ensures.divided

pub follow-requires-clause-front : goal.follow-requires-clause-front
follow-requires-clause-front g c =
    let at = (goal.at.follow-requires-clause-front g c).After-len-nodes in
    front _ _ _ _ (went g at) (some_ends _ _ c.sequences-sequences.ensures.divided (next_is g at).some_node)

pub follow-requires-clause-countable : goal.follow-requires-clause-countable
follow-requires-clause-countable g c = grind (arith, common_steps, next_is)
