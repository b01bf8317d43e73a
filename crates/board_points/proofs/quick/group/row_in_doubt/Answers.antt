use Rattle.board_points.proofs.Common.{◌^◌, ◌<◌, sym, subst, rules, HasLiberty}
use Rattle.board_points.proofs.LinkedLemmas.{common_column, none_lives}
use Rattle.board_points.proofs.quick.group.row_in_doubt.Goals as goal

pub returns-then-joined-free-ne0-clause-lives : goal.returns-then-joined-free-ne0-clause-lives
returns-then-joined-free-ne0-clause-lives c =
    let joined = c.joined_in_row-joined in
    let both = common_column joined.result c.columns_with_liberty-free.result (search rules) c.if-joined-free-ne0.true in (
      record { col = both.0; row = c.args.from.row },
      record {
        own_stone = joined.ensures.within both.0 both.1;
        linked = joined.ensures.linked both.0 both.1;
        liberty = subst (λ r. HasLiberty c.args.own.now c.args.others.now (record { col = both.0; row = r })) c.from-row.ensures (c.columns_with_liberty-free.ensures.from both.0 both.2);
      },
    )

pub returns-clause-doubt : goal.returns-clause-doubt
returns-clause-doubt c =
    let joined = c.joined_in_row-joined in
    let low : joined.result < 2 ^ 64 = search rules in
    record {
      stone = c.requires.stone;
      linked = joined.ensures;
      shut = λ col. none_lives c.args.own.now c.args.others.now c.from-row.result joined.result c.columns_with_liberty-free.result low c.columns_with_liberty-free.ensures.to
          c.if-joined-free-ne0.false (record { col = col; row = c.args.from.row }) (sym c.from-row.ensures);
    }
