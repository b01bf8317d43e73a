use Rattle.board_stones.proofs.Common.{inl, inr, sym, ◌∙◌, ap, subst, arith, Some, ◌≡◌, false≢true, Point, IsOn, is_set, Reaches, ReachesIfStone, AreShutGroups, Empty, Contains-take_more}
use Rattle.std.proofs.Common.{is_some}
use Rattle.board_stones.proofs.ClearedLemmas.{beside_cleared, AreShutGroups-none}
use Rattle.board_stones.proofs.board.Board.find_shut_beside.Goals as goal
use Rattle.board_stones.proofs.board.Board.find_shut_beside.Goals.{then-may_be_shut+else-is_some, else-may_be_shut}

pub loop-at-preserved : goal.loop-at-preserved
loop-at-preserved c =
    let g = c.args.self.now in
    let k = c.args.colour in
    let before = c.loop-at.invariant in
    let turn = λ (q : Point). Contains-take_more c.neighbours-at-items.result c.loop-at.at-index q (omega arith) in
    elim c.if-may_be_shut.branch [
      | then-may_be_shut+else-is_some w ↦
          rw (w.doubted-is)
          (record {
            same = before.same;
            stone = c.may_be_shut.ensures.stone w.if-may_be_shut.true;
            beside = λ q among on.
                elim ((turn q).0 among) [
                  | inl earlier ↦
                      elim (before.beside q earlier on) [
                        | inl some ↦ absurd (false≢true (sym w.if-is_some.false ∙ w.is_some.ensures ∙ ap is_some some))
                        | inr reaches ↦ inr reaches
                      ]
                  | inr is ↦ inl (ap Some (sym is))
                ];
          })
      | else-may_be_shut w ↦
          rw (w.doubted-is)
          (record {
            same = before.same;
            stone = before.stone;
            beside = λ q among on.
                elim ((turn q).0 among) [
                  | inl earlier ↦ before.beside q earlier on
                  | inr is ↦
                      inr (subst (λ p. IsOn g.side p → ReachesIfStone g k p) (sym is) (c.may_be_shut.ensures.lives w.if-may_be_shut.false) on)
                ];
          })
    ]

pub find_shut_among-requires-clause-shut : goal.find_shut_among-requires-clause-shut
find_shut_among-requires-clause-shut c =
    subst (AreShutGroups c.args.self.now c.args.colour) (sym c.loop-at.invariant.same) (AreShutGroups-none _ _ _ c.requires.none.all c.requires.none.none)

pub returns-then-is_some : goal.returns-then-is_some
returns-then-is_some c =
    let adds = c.find_shut_among.ensures.adds in
    record {
      shut = λ _. adds.shut;
      some = adds.some;
      beside = λ _. c.find_shut_among.ensures.beside;
      lives = λ none q on next stone.
          elim (c.find_shut_among.ensures.beside q on next stone) [
            | inl there ↦ absurd (false≢true (sym (c.requires.none.none q) ∙ ap (λ l. is_set l q) (sym (adds.none none ∙ c.loop-at.invariant.same)) ∙ there))
            | inr reaches ↦ reaches
          ];
      all = adds.shut.all;
    }

pub returns-in-Some : goal.returns-in-Some
returns-in-Some c =
    let found = c.find_shut.ensures in
    record {
      shut = found.shut;
      some = λ some. (c.in-Some.at, found.here some);
      beside = λ some q on next stone.
          elim (c.loop-at.invariant.beside q (beside_cleared c.args.point q c.neighbours-at-items.result c.loop-at.at-index _ c.neighbours-at-items.ensures (omega (arith, c.loop-at-test.false)) c.has_all_cells.ensures.few on next) on) [
            | inl is ↦ (let is : c.in-Some.at ≡ q = cc in inl (ap (is_set c.find_shut.new.shut) (sym is) ∙ found.here some))
            | inr reaches ↦ inr (reaches stone)
          ];
      lives = λ none q on next stone.
          elim (c.loop-at.invariant.beside q (beside_cleared c.args.point q c.neighbours-at-items.result c.loop-at.at-index _ c.neighbours-at-items.ensures (omega (arith, c.loop-at-test.false)) c.has_all_cells.ensures.few on next) on) [
            | inl is ↦ (let is : c.in-Some.at ≡ q = cc in subst (Reaches c.args.self.now Empty) is (found.lives none))
            | inr reaches ↦ reaches stone
          ];
      all = found.all;
    }

pub returns-in-None-clause-lives : goal.returns-in-None-clause-lives
returns-in-None-clause-lives c = λ _ q on next stone.
    elim (c.loop-at.invariant.beside q (beside_cleared c.args.point q c.neighbours-at-items.result c.loop-at.at-index _ c.neighbours-at-items.ensures (omega (arith, c.loop-at-test.false)) c.has_all_cells.ensures.few on next) on) [
      | inl some ↦ absurd cc
      | inr reaches ↦ reaches stone
    ]
