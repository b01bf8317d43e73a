-- The judgement on the line before is kept as far as this line begins alike.
use Rattle.judged_lines.proofs.Keeping.{held_part}
use Rattle.judged_lines.proofs.follower.JudgedLineLineKeeper.follow.Goals as goal

pub follow-requires-clause-held : goal.follow-requires-clause-held
follow-requires-clause-held c = held_part _ _ c.args.cursor.now c.args.held (λ old h. h.0) c.requires.held

pub follow-requires-clause-front : goal.follow-requires-clause-front
follow-requires-clause-front c = c.requires.front

pub returns-clause-plays : goal.returns-clause-plays
returns-clause-plays c = c.follow.ensures.plays
