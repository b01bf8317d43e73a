use Rattle.board_past.proofs.Common.{◌≡◌, ℕ, ◌*◌, ◌-◌, ◌%◌, ◌^◌, ◌<◌, ap, ◌∙◌, sym, arith, index_of, cell_at, code}
use Rattle.board_past.proofs.PrintLemmas.{cell_removed, counted_once, counted_twice}
use Rattle.board_past.proofs.past.print_past.print.print_without.Goals as goal
use Rattle.board_past.proofs.past.print_past.print.print_without.Goals.{in-Empty, in-Black, in-White}

none : (n : ℕ) → 0 % 2 ^ 64 ≡ (0 * n) % 2 ^ 64
none n = omega arith

pub returns : goal.returns
returns c =
    let m = 2 ^ 64 in
    let g = c.args.board.now in
    let p = c.args.point in
    let power = 31 ^ (g.side * g.side - 1 - index_of g.side p) in
    let cell : c.at.result ≡ cell_at g p = c.at.ensures in
    let weight : c.power_of-weight.result ≡ power % m = c.power_of-weight.ensures ∙ ap (λ n. 31 ^ (n * n - 1 - index_of n p) % m) (c.side.ensures.value ∙ c.size.ensures) in
    let removed : (c.match-at.result < m) × (c.match-at.result % m ≡ (code (cell_at g p) * power) % m) =
    elim c.match-at.branch [
      | in-Empty w ↦
          (omega (arith, w.result-is), ap (λ n. n % m) w.result-is ∙ none power ∙ ap (λ x. (code x * power) % m) (sym w.in-Empty.is ∙ cell))
      | in-Black w ↦
          (omega (arith, w.result-is, weight), ap (λ n. n % m) (w.result-is ∙ weight) ∙ counted_once power ∙ ap (λ x. (code x * power) % m) (sym w.in-Black.is ∙ cell))
      | in-White w ↦
          (omega (arith, w.result-is), ap (λ n. n % m) (w.result-is ∙ ap (λ n. (n * 2) % m) weight) ∙ counted_twice power ∙ ap (λ x. (code x * power) % m) (sym w.in-White.is ∙ cell))
    ] in
    cell_removed g p c.requires.on_board c.has_all_cells.ensures.all c.args.print c.match-at.result c.requires.print removed.0 removed.1
