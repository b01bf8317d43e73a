use Rattle.board_points.proofs.Common.{◌≡◌, ◌+◌, ◌<◌, ◌^◌, ℕ, not, nat_eq, true, false, List, length, set, slice_index, inl, inr, sym, ap, ◌∙◌, subst, arith, rules, length-set, false≢true, Point, HasLiberty, IsLiberty, IsLinked, has_bit, is_set, IsClosed, IsWithin, Grows, IsPart, HasNoneAcross, HasOneAlive}
use Rattle.board_points.proofs.GrowLemmas.{Grows-twice, zero_of}
use Rattle.board_points.proofs.LinkedLemmas.{in_first, of_first, first_within, alive_linked, common_column, none_lives, part_linked}
use Rattle.board_points.proofs.quick.group.has_liberty.Goals as goal
use Rattle.board_points.proofs.quick.group.has_liberty.Goals.{After-from-first}

-- the stones in the row of a stone that are linked to it, as a set
module _ (c : After-from-first) where
  abbrev own : List ℕ
  own = c.args.own.now

  abbrev old : List ℕ
  old = c.args.group.now

  abbrev row : ℕ
  row = c.from-first.result

  abbrev joined : ℕ
  joined = c.args.joined

  abbrev start : List ℕ
  start = set old row joined

  abbrev from : Point
  from = c.args.from

  at : row ≡ from.row
  at = c.from-first.ensures

  below : row < length old
  below = omega (arith, at, c.requires.stone.on_board, c.requires.none.all)

  in_start : (p : Point) → is_set start p ≡ true → (p.row ≡ row) × (has_bit joined p.col ≡ true)
  in_start = in_first own old row joined c.requires.none.none below

  linked : (p : Point) → is_set start p ≡ true → IsLinked (is_set own) from p
  linked p is =
      let w = in_start p is in
      subst (λ r. IsLinked (is_set own) from (record { col = p.col; row = r })) (sym (w.0 ∙ at)) (c.requires.row.linked p.col w.1)

  start_within : IsWithin start own
  start_within = record {
    same = length-set old row joined ∙ c.requires.none.all;
    few = omega (arith, length-set old row joined, c.requires.none.all, c.requires.stone.rows.few);
    within = first_within own old row joined c.requires.none.none below (subst (λ r. IsPart (has_bit joined) (has_bit (slice_index own r))) (sym at) c.requires.row.within);
  }

  there : is_set start from ≡ true
  there = ap (λ r. has_bit (slice_index start r) from.col) (sym at) ∙ of_first own old row joined c.requires.none.none below from.col c.requires.row.start

  alive : (new : List ℕ) → Grows (is_set own) (is_set start) (is_set new) → HasOneAlive own c.args.others.now new → (p : Point) × IsLiberty own c.args.others.now from p
  alive new grows = alive_linked own c.args.others.now start new from grows linked

  part : (new : List ℕ) → Grows (is_set own) (is_set start) (is_set new) → (stone : Point) → is_set new stone ≡ true → (is_set own stone ≡ true) × IsLinked (is_set own) from stone
  part new grows = part_linked own start new from grows linked

  -- if no stone is across, it is the whole group
  alone_closed : HasNoneAcross own row joined → IsClosed (is_set own) (is_set start)
  alone_closed across point other (inl column) own_stone is =
      let w = in_start other is in
      let in_column : has_bit joined point.col ≡ true = ap (λ k. has_bit joined k) column.0 ∙ w.1 in
      let gone : is_set own point ≡ false = elim column.1 [
        | inl up ↦ across point (inl (up ∙ w.0)) in_column
        | inr down ↦ across point (inr (ap (λ r. r + 1) (sym w.0) ∙ down)) in_column
      ] in
      absurd (false≢true (sym gone ∙ own_stone))
  alone_closed across point other (inr in_row) own_stone is =
      let w = in_start other is in
      let point_row : point.row ≡ row = in_row.0 ∙ w.0 in
      let there = ap (λ r. has_bit (slice_index own r) point.col) (sym (point_row ∙ at)) ∙ own_stone in
      ap (λ r. has_bit (slice_index start r) point.col) point_row
      ∙ of_first own old row joined c.requires.none.none below point.col (c.requires.row.closed point.col other.col in_row.1 there w.1)

pub returns-then-is_in_one_row-clause-lives : goal.returns-then-is_in_one_row-clause-lives
returns-then-is_in_one_row-clause-lives c = λ is.
    let joined = c.args.joined in
    let low : joined < 2 ^ 64 = search rules in
    let both = common_column joined c.columns_with_liberty.result low (λ none. false≢true (sym (ap (λ n. not (nat_eq n 0)) none) ∙ is)) in (
      record { col = both.0; row = c.args.from.row },
      record {
        own_stone = c.requires.row.within both.0 both.1;
        linked = c.requires.row.linked both.0 both.1;
        liberty = subst (λ r. HasLiberty c.args.own.now c.args.others.now (record { col = both.0; row = r })) c.from-first.ensures (c.columns_with_liberty.ensures.from both.0 both.2);
      },
    )

pub returns-then-is_in_one_row-clause-shut : goal.returns-then-is_in_one_row-clause-shut
returns-then-is_in_one_row-clause-shut c = λ no.
    let w = (goal.at.returns-then-is_in_one_row-clause-shut c).After-from-first in
    let low : c.args.joined < 2 ^ 64 = search rules in
    record {
      all = length-set (old w) (row w) c.args.joined ∙ c.requires.none.all;
      within = (start_within w).within;
      start = there w;
      closed = alone_closed w (c.is_in_one_row.ensures c.if-is_in_one_row.true);
      shut = λ stone is.
          let at = in_start w stone is in
          none_lives c.args.own.now c.args.others.now (row w) c.args.joined c.columns_with_liberty.result low c.columns_with_liberty.ensures.to (zero_of _ no) stone at.0 at.1;
    }

pub returns-then-is_in_one_row-clause-part : goal.returns-then-is_in_one_row-clause-part
returns-then-is_in_one_row-clause-part c = λ stone is.
    let w = (goal.at.returns-then-is_in_one_row-clause-part c).After-from-first in
    ((start_within w).within stone is, linked w stone is)

pub returns-then-lives_ahead-clause-lives : goal.returns-then-lives_ahead-clause-lives
returns-then-lives_ahead-clause-lives c = λ is.
    alive (goal.at.returns-then-lives_ahead-clause-lives c).After-from-first _ c.lives_ahead.ensures.grows (c.lives_ahead.ensures.lives c.if-lives_ahead.true)

pub returns-then-lives_ahead-2-clause-lives : goal.returns-then-lives_ahead-2-clause-lives
returns-then-lives_ahead-2-clause-lives c = λ is.
    let w = (goal.at.returns-then-lives_ahead-2-clause-lives c).After-from-first in
    let grows = Grows-twice (own w) (start w) c.lives_ahead.new.group c.lives_ahead-2.new.group c.lives_ahead.ensures.grows c.lives_ahead-2.ensures.grows in
    alive w _ grows (c.lives_ahead-2.ensures.lives c.if-lives_ahead-2.true)

pub returns-clause-lives : goal.returns-clause-lives
returns-clause-lives c = λ is.
    let w = (goal.at.returns-clause-lives c).After-from-first in
    let grows = Grows-twice (own w) (start w) c.lives_ahead.new.group c.lives_ahead-2.new.group c.lives_ahead.ensures.grows c.lives_ahead-2.ensures.grows in
    alive w _ (Grows-twice (own w) (start w) c.lives_ahead-2.new.group c.fill.new.rows grows c.fill.ensures.grows) (c.some_lives.ensures.lives is)

pub returns-clause-shut : goal.returns-clause-shut
returns-clause-shut c = λ no. record {
  all = omega (arith, c.fill.auto.rows, c.lives_ahead-2.ensures.all, c.lives_ahead.ensures.all, length-set c.args.group.now c.from-first.result c.args.joined, c.requires.none.all);
  within = c.fill.ensures.grows.within;
  start = c.fill.ensures.grows.kept c.args.from (c.lives_ahead-2.ensures.grows.kept c.args.from (c.lives_ahead.ensures.grows.kept c.args.from
      (there (goal.at.returns-clause-shut c).After-from-first)));
  closed = c.fill.ensures.closed;
  shut = c.some_lives.ensures.shut no;
}

pub returns-then-lives_ahead-clause-part : goal.returns-then-lives_ahead-clause-part
returns-then-lives_ahead-clause-part c = part (goal.at.returns-then-lives_ahead-clause-part c).After-from-first _ c.lives_ahead.ensures.grows

pub returns-then-lives_ahead-2-clause-part : goal.returns-then-lives_ahead-2-clause-part
returns-then-lives_ahead-2-clause-part c =
    let w = (goal.at.returns-then-lives_ahead-2-clause-part c).After-from-first in
    part w _ (Grows-twice (own w) (start w) c.lives_ahead.new.group c.lives_ahead-2.new.group c.lives_ahead.ensures.grows c.lives_ahead-2.ensures.grows)

pub returns-clause-part : goal.returns-clause-part
returns-clause-part c =
    let w = (goal.at.returns-clause-part c).After-from-first in
    let grows = Grows-twice (own w) (start w) c.lives_ahead.new.group c.lives_ahead-2.new.group c.lives_ahead.ensures.grows c.lives_ahead-2.ensures.grows in
    part w _ (Grows-twice (own w) (start w) c.lives_ahead-2.new.group c.fill.new.rows grows c.fill.ensures.grows)
