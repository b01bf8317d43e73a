use Rattle.board_points.proofs.Common.{inl, inr, sym, ◌∙◌, length, rules, or_cases}
use Rattle.board_points.proofs.LinkedLemmas.{none_in_front, IsLiberty-linked}
use Rattle.board_points.proofs.quick.group.add_to_either.Goals as goal

pub has_liberty-requires-clause-none : goal.has_liberty-requires-clause-none
has_liberty-requires-clause-none c = record {
  all = search rules;
  none = λ p. none_in_front (length c.args.own.now) 52 c.no_rows-words.result p c.no_rows-words.ensures;
}

pub returns-then-has_liberty-clause-alive : goal.returns-then-has_liberty-clause-alive
returns-then-has_liberty-clause-alive c =
    let lives = c.has_liberty.ensures.lives c.if-has_liberty.true in
    record {
      all = c.add_points.ensures.rows;
      alive = λ p is.
          elim (or_cases _ _ (sym (c.add_points.ensures.both p) ∙ is)) [
            | inl old ↦ inl old
            | inr new ↦
                (let part = c.has_liberty.ensures.part p new in
                inr (part.0, (lives.0, IsLiberty-linked c.args.own.now c.args.others.now c.args.from p lives.0 c.requires.stone.there part.1 lives.1)))
          ];
    }
