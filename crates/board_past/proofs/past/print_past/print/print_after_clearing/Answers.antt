use Rattle.board_past.proofs.Common.{◌≡◌, ◌≢◌, ◌*◌, ◌-◌, ◌%◌, ◌^◌, length, inl, inr, refl, ap, ◌∙◌, sym, arith, rules, length-set, cases_Bool, true, false, false≢true, get_or_past, has_bit, has_bit-zero, index_of, is_set, play, stone_of, code, with_cell, print_of, cell_at-with_cell_elsewhere, side_play}
use Rattle.board_past.proofs.PrintLemmas.{counted_once, counted_twice, print_left, stone_added}
use Rattle.board_stones.proofs.ClearedLemmas.{clears_nothing-alone}
use Rattle.board_past.proofs.past.print_past.print.print_after_clearing.Goals as goal
use Rattle.board_past.proofs.past.print_past.print.print_after_clearing.Goals.{After-is_empty, then-has_point, else-has_point, in-Black, in-White}

-- the print once the stone is put, which may be cleared at once
put : (c : After-is_empty) → (is_set c.args.cleared.now c.args.point ≡ true → c.if-has_point.put ≡ print_of c.args.board.now)
    × (is_set c.args.cleared.now c.args.point ≡ false → c.if-has_point.put ≡ print_of (with_cell c.args.board.now c.args.point (stone_of c.args.colour)))
put c =
    let m = 2 ^ 64 in
    let g = c.args.board.now in
    let p = c.args.point in
    let power = 31 ^ (g.side * g.side - 1 - index_of g.side p) in
    let is = sym c.has_point.ensures in
    elim c.if-has_point.branch [
      | then-has_point w ↦ (λ _. w.put-is ∙ c.requires.print, λ none. absurd (false≢true (sym none ∙ is ∙ w.if-has_point.true)))
      | else-has_point w ↦
          let weight : w.power_of-weight.result ≡ power % m = w.power_of-weight.ensures ∙ ap (λ n. 31 ^ (n * n - 1 - index_of n p) % m) (w.side.ensures.value ∙ w.size.ensures) in (
            λ gone. absurd (false≢true (sym (is ∙ w.if-has_point.false) ∙ gone)),
            λ _. w.put-is ∙ stone_added g p (stone_of c.args.colour) c.requires.stone.on_board c.requires.stone.empty c.has_all_cells.ensures.all c.args.print w.match-colour.put c.requires.print
                (elim w.match-colour.branch [
                  | in-Black v ↦ ap (λ n. n % m) (v.put-is ∙ weight) ∙ counted_once power ∙ ap (λ x. (code (stone_of x) * power) % m) (sym v.in-Black.is)
                  | in-White v ↦ ap (λ n. n % m) (v.put-is ∙ ap (λ n. (n * 2) % m) weight) ∙ counted_twice power ∙ ap (λ x. (code (stone_of x) * power) % m) (sym v.in-White.is)
                ]),
          )
    ]

pub returns-then-is_empty : goal.returns-then-is_empty
returns-then-is_empty c =
    let none : length c.args.cleared.now ≡ 0 = search rules in
    let stays = ap (λ n. has_bit n c.args.point.col) (get_or_past c.args.cleared.now c.args.point.row 0 (omega (arith, none))) ∙ has_bit-zero c.args.point.col in
    (put (goal.at.returns-then-is_empty c).After-is_empty).1 stays
    ∙ ap print_of (sym (clears_nothing-alone c.args.board.now c.args.point c.args.colour c.args.cleared.now c.has_all_cells.ensures.all none c.requires.stone.cleared))

pub returns : goal.returns
returns c =
    let g = c.args.board.now in
    let k = c.args.colour in
    let p = c.args.point in
    let cleared = c.args.cleared.now in
    let left = play g k p in
    let played = c.requires.stone.cleared.played in
    let side = side_play g k p in
    let all = c.has_all_cells.ensures.all in
    let all_made = length-set g.cells (index_of g.side p) (stone_of k) ∙ all in
    let all_left : length left.cells ≡ left.side * left.side = played.all ∙ all_made ∙ ap (λ n. n * n) (sym side) in
    let is = put (goal.at.returns c).After-is_empty in
    elim (cases_Bool (is_set cleared p)) [
      | inl gone ↦
          search (print_left g g left cleared refl side
          (λ q on there. (played.emptied q on there, refl))
          (λ q on none.
          let other : q ≢ p = λ e. false≢true (sym none ∙ ap (is_set cleared) e ∙ gone) in
          sym (played.kept q on (λ there. false≢true (sym none ∙ there)) ∙ cell_at-with_cell_elsewhere g p q (stone_of k) c.requires.stone.on_board on other))
          all all_left c.if-has_point.put c.print_within.result (is.0 gone) c.print_within.ensures)
      | inr stays ↦
          search (print_left g (with_cell g p (stone_of k)) left cleared refl side
          (λ q on gone.
          let other : q ≢ p = λ e. false≢true (sym stays ∙ ap (is_set cleared) (sym e) ∙ gone) in
          (played.emptied q on gone, cell_at-with_cell_elsewhere g p q (stone_of k) c.requires.stone.on_board on other))
          (λ q on none. sym (played.kept q on (λ gone. false≢true (sym none ∙ gone))))
          all_made all_left c.if-has_point.put c.print_within.result (is.1 stays) c.print_within.ensures)
    ]
