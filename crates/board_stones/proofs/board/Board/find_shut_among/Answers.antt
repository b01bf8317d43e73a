use Rattle.board_stones.proofs.Common.{◌∙◌, length, inl, inr, sym, ap, subst, refl, arith, rules, false≢true, Point, IsOn, is_set, cell_at, Reaches, IsClearedOrReaches, Empty, Contains-take_more}
use Rattle.board_points.proofs.LinkedLemmas.{none_in_front}
use Rattle.board_stones.proofs.GridLemmas.{Decides-same_cell}
use Rattle.board_stones.proofs.LibertyLemmas.{rows_of_colour, Reaches-liberty, IsStone-rows}
use Rattle.board_stones.proofs.ClearedLemmas.{AddsGroup-rows, adds_either, cleared_still, beside_cleared}
use Rattle.board_stones.proofs.board.Board.find_shut_among.Goals as goal
use Rattle.board_stones.proofs.board.Board.find_shut_among.Goals.{then-has_stone+then-not-has_point+then-not-has_point-2, else-has_stone, else-has_stone-via-else-has_stone, else-has_stone-via-then-has_stone+else-not-has_point, else-has_stone-via-then-has_stone+then-not-has_point+else-not-has_point-2}

pub loop-at-init : goal.loop-at-init
loop-at-init c = record {
  adds = record { shut = c.requires.shut; kept = λ _ is. is; none = λ _. refl; some = λ no. absurd (false≢true no) };
  alive = record {
    all = search rules;
    reach = λ p is. absurd (false≢true (sym (none_in_front (length c.rows_of-own.result.now) 52 c.no_rows-words.result p c.no_rows-words.ensures) ∙ is));
  };
  beside = search rules;
}

pub add_to_either-some-requires-clause-stone : goal.add_to_either-some-requires-clause-stone
add_to_either-some-requires-clause-stone c =
    let known = c.has_stone.ensures.0 c.if-has_stone.true in
    let are = rows_of_colour _ _ _ _ c.opponent.ensures c.rows_of-others.ensures.are in
    IsStone-rows _ _ _ _ _ c.rows_of-own.ensures.rows c.rows_of-own.ensures.are are c.has_all_cells.ensures.few c.rows_of-others.ensures.rows known.0 known.1

pub loop-at-preserved : goal.loop-at-preserved
loop-at-preserved c =
    let g = c.args.self.now in
    let k = c.args.colour in
    let own = c.rows_of-own in
    let other = c.rows_of-others in
    let are = rows_of_colour _ _ _ _ c.opponent.ensures other.ensures.are in
    let before = c.loop-at.invariant in
    let turn = λ (q : Point). Contains-take_more c.neighbours-at-items.result c.loop-at.at-index q (omega arith) in
    elim c.if-has_stone.branch [
      | then-has_stone+then-not-has_point+then-not-has_point-2 w ↦
          let known = c.has_stone.ensures.0 w.if-has_stone.true in
          let found = w.add_to_either-some in
          let now = AddsGroup-rows g k own.result.now other.result.now _ found.new.shut _ found.result own.ensures.rows own.ensures.are are
          (record { on_board = known.0; stone = known.1; shut = before.adds.shut }) found.ensures.shut in
          rw (w.shut-is, w.alive-is)
          (record {
            alive = record {
              all = found.ensures.alive.all ∙ before.alive.all;
              reach = λ p is.
                  elim (found.ensures.alive.alive p is) [
                    | inl old ↦ before.alive.reach p old
                    | inr new ↦
                        (let on = own.ensures.are.off p new.0 in
                        let stone = (Decides-same_cell _ _).0 (sym (own.ensures.are.on p on) ∙ new.0) in
                        Reaches-liberty g k own.result.now other.result.now p own.ensures.rows own.ensures.are are on stone new.1.0 new.1.1)
                  ];
            };
            adds = adds_either g c.args.colour _ _ _ _ _ _ _ before.adds now w.some-is;
            beside = λ q among on.
                elim ((turn q).0 among) [
                  | inl earlier ↦ cleared_still g c.args.colour _ _ q now.adds.kept (before.beside q earlier on)
                  | inr is ↦ subst (IsClearedOrReaches g c.args.colour w.add_to_either-some.new.shut) (sym is) now.here
                ];
          })
      | else-has_stone w ↦
          rw (w.shut-is, w.alive-is)
          (record {
            alive = before.alive;
            adds = rw w.some-is before.adds;
            beside = λ q among on stone.
                elim ((turn q).0 among) [
                  | inl earlier ↦ before.beside q earlier on stone
                  | inr is ↦
                      elim w.else-has_stone.branch [
                        | else-has_stone-via-else-has_stone v ↦
                            absurd (false≢true (sym v.if-has_stone.false ∙ c.has_stone.ensures.1 (subst (IsOn g.side) is on, ap (cell_at g) (sym is) ∙ stone)))
                        | else-has_stone-via-then-has_stone+else-not-has_point v ↦ inl (ap (is_set _) is ∙ sym v.has_point.ensures ∙ v.if-not-has_point.false)
                        | else-has_stone-via-then-has_stone+then-not-has_point+else-not-has_point-2 v ↦
                            inr (subst (Reaches g Empty) (sym is) (before.alive.reach _ (sym v.has_point-then-not-has_point.ensures ∙ v.if-not-has_point-2.false)))
                      ]
                ];
          })
    ]

pub returns-clause-beside : goal.returns-clause-beside
returns-clause-beside c = λ q on next.
    c.loop-at.invariant.beside q
    (beside_cleared c.args.point q c.neighbours-at-items.result c.loop-at.at-index c.args.self.now.side c.neighbours-at-items.ensures (omega (arith, c.loop-at-test.false)) c.has_all_cells.ensures.few on next) on
