use Rattle.board_stones.proofs.Common.{◌≡◌, false, inl, ap, sym, ◌∙◌, subst, arith, rules, false≢true, has_unreaching, IsOn, ReachesIfStone, opponent, stone_of, Grid, cell_at, with_cell, Clears, AreShutGroups, AreClearedOrReachBeside, ReachBeside, Empty}
use Rattle.board_stones.proofs.GridLemmas.{cell_at-with_cell}
use Rattle.board_stones.proofs.ClearedLemmas.{cleared_away, clears_nothing, clears_beside, clears_own}
use Rattle.board_stones.proofs.board.Board.find_cleared.Goals as goal
use Rattle.board_stones.proofs.board.Board.find_cleared.Goals.{After-find_shut_beside-some, then-not-some+then-may_be_shut, else-not-some, else-not-some-via-then-not-some+else-may_be_shut, else-not-some-via-else-not-some}

pub find_shut_beside-some-requires-clause-none : goal.find_shut_beside-some-requires-clause-none
find_shut_beside-some-requires-clause-none c = record { all = c.requires.none.all ∙ sym (ap (λ (g : Grid). g.side) c.add.ensures); none = c.requires.none.none }

as_before : (c : goal.After-set_settled-arg-1) → c.set.new.self ≡ c.args.self.now
as_before c =
    c.set.ensures ∙ ap (λ h. with_cell h c.args.point Empty) c.add.ensures
    ∙ cleared_away c.args.self.now c.args.point (stone_of c.args.colour) c.requires.stone.on_board c.has_all_cells.ensures.all c.requires.stone.empty

pub set_settled-requires : goal.set_settled-requires
set_settled-requires c = λ _. ap has_unreaching (as_before c) ∙ c.requires.stone.settled

pub returns-clause-unchanged : goal.returns-clause-unchanged
returns-clause-unchanged c =
    c.set_settled.ensures ∙ c.set.ensures ∙ ap (λ h. with_cell h c.args.point Empty) c.add.ensures
    ∙ cleared_away c.args.self.now c.args.point (stone_of c.args.colour) c.requires.stone.on_board c.has_all_cells.ensures.all c.requires.stone.empty

-- the opponent's stones beside the stone reach empty, if none of their groups is found shut
others_reach : (c : After-find_shut_beside-some) → c.find_shut_beside-some.result ≡ false → ReachBeside (with_cell c.args.self.now c.args.point (stone_of c.args.colour)) (opponent c.args.colour) c.args.point
others_reach c none =
    let p = c.args.point in
    subst (λ o. ReachBeside (with_cell c.args.self.now p (stone_of c.args.colour)) o p) c.opponent.ensures (subst (λ h. ReachBeside h c.opponent.result p) c.add.ensures (c.find_shut_beside-some.ensures.lives none))

pub returns-clause-cleared : goal.returns-clause-cleared
returns-clause-cleared c = λ is.
    let g = c.args.self.now in
    let k = c.args.colour in
    let p = c.args.point in
    let placed = with_cell g p (stone_of k) in
    let here : c.add.new.self ≡ placed = c.add.ensures in
    let first = c.find_shut_beside-some in
    elim c.if-not-some.branch [
      | then-not-some+then-may_be_shut w ↦
          let found = sym w.some-is ∙ is in
          let rows = w.find_shut-some.new.shut in
          let own = subst (λ h. AreShutGroups h k rows) here (w.find_shut-some.ensures.shut found) in
          subst (λ all. Clears g k p all) (sym w.cleared-is)
          (clears_own g p k c.requires.stone.on_board c.has_all_cells.ensures.all c.requires.stone.settled rows (omega (arith, own.all)) own.on_grid own.shut
          (others_reach (goal.at.returns-clause-cleared c).After-find_shut_beside-some w.if-not-some.true) (λ _. inl (w.find_shut-some.ensures.here found)))
      | else-not-some w ↦
          let found = sym w.some-is ∙ is in
          let rows = first.new.shut in
          let some = first.ensures.some found in
          subst (λ all. Clears g k p all) (sym w.cleared-is)
          (clears_beside g p k c.requires.stone.on_board c.has_all_cells.ensures.all c.requires.stone.settled rows
          (subst (λ o. AreShutGroups placed o rows) c.opponent.ensures (subst (λ h. AreShutGroups h c.opponent.result rows) here (first.ensures.shut found)))
          (subst (λ o. AreClearedOrReachBeside placed o p rows) c.opponent.ensures (subst (λ h. AreClearedOrReachBeside h c.opponent.result p rows) here (first.ensures.beside found)))
          (λ none. false≢true (sym (none some.0) ∙ some.1)))
    ]

pub returns-clause-none : goal.returns-clause-none
returns-clause-none c = λ fails.
    let p = c.args.point in
    let k = c.args.colour in
    let others = others_reach (goal.at.returns-clause-none c).After-find_shut_beside-some in
    let nothing = λ (reaches : ReachesIfStone c.add.new.self k p) (none : c.find_shut_beside-some.result ≡ false).
    clears_nothing c.args.self.now p k c.requires.stone.on_board c.has_all_cells.ensures.all c.requires.stone.settled (subst (λ h. ReachesIfStone h k p) c.add.ensures reaches, others none) in
    elim c.if-not-some.branch [
      | then-not-some+then-may_be_shut w ↦ nothing (λ _. w.find_shut-some.ensures.lives (sym w.some-is ∙ fails)) w.if-not-some.true
      | else-not-some w ↦
          let on : IsOn c.add.new.self.side p = search rules in
          elim w.else-not-some.branch [
            | else-not-some-via-then-not-some+else-may_be_shut v ↦ nothing (v.may_be_shut.ensures.lives v.if-may_be_shut.false on) v.if-not-some.true
            | else-not-some-via-else-not-some v ↦ absurd (false≢true (sym fails ∙ w.some-is ∙ v.if-not-some.false))
          ]
    ]

pub find_shut-some-requires-clause-stone : goal.find_shut-some-requires-clause-stone
find_shut-some-requires-clause-stone c =
    ap (λ (h : Grid). cell_at h c.args.point) c.add.ensures
    ∙ cell_at-with_cell c.args.self.now c.args.point (stone_of c.args.colour) c.requires.stone.on_board c.has_all_cells.ensures.all

pub find_shut-some-requires-clause-none : goal.find_shut-some-requires-clause-none
find_shut-some-requires-clause-none c = record { all = c.remove_all.ensures.all ∙ c.find_shut_beside-some.ensures.all; none = c.remove_all.ensures.none }
