use Rattle.board_past.proofs.Common.{◌≡◌, ℕ, ◌-◌, ◌*◌, ◌%◌, ◌^◌, ◌<◌, ◌≤◌, ap, ◌∙◌, arith, rules}
use Rattle.std.proofs.Math.Nat.{mul-le-mul}
use Rattle.board_past.proofs.PowerLemmas.{any_power}
use Rattle.board_past.proofs.PrintLemmas.{points_left}
use Rattle.board_past.proofs.past.print_past.powers.power_of.Goals as goal

same_power : {result exponent other : ℕ} → exponent ≡ other → result ≡ 31 ^ exponent % 2 ^ 64 → result ≡ 31 ^ other % 2 ^ 64
same_power is made = made ∙ ap (λ n. 31 ^ n % 2 ^ 64) is

pub returns : goal.returns
returns c =
    let side = c.args.side in
    let low : c.from-side.result ≤ 52 = omega (arith, c.from-side.ensures, c.requires.side) in
    let rows : c.from-side.result - c.from.result ≤ 52 = omega (arith, low) in
    let points = mul-le-mul rows low in
    let few : (c.from-side.result - c.from.result) * c.from-side.result - 1 - c.from-2.result < 2704 = omega (arith, points) in
    same_power (ap (λ n. (n - c.from.result) * n - 1 - c.from-2.result) c.from-side.ensures
    ∙ ap (λ n. (side - n) * side - 1 - c.from-2.result) c.from.ensures
    ∙ ap (λ n. (side - c.args.point.row) * side - 1 - n) c.from-2.ensures
    ∙ points_left side c.args.point.row c.args.point.col c.requires.on_board.0 c.requires.on_board.1) (search (rules, any_power))
