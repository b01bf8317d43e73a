use Rattle.std.proofs.Common.{◌≡◌, [], ◌∷◌, arith}
use Rattle.judged_lines.proofs.Gathered.{values_two}
use Rattle.judged_lines.proofs.judging.contents.with_moves.Goals as goal

pub returns-in-Some : goal.returns-in-Some
returns-in-Some c = λ ms are.
    let p = c.args.property.now in
    let none : ms ≡ [] = rw c.in-Nothing.is at are in
    let rest : p.more ≡ c.in-Some.field-0.now ∷ c.next-in-Nothing.new.self = (let a = c.iter-values.ensures in let b = c.next.ensures.steps in let d = c.in-Some.ensures.steps in let e = c.unwrap-raw.ensures in grind arith) in
    values_two c.args.colour ms p c.in-Some.field-0.now c.next-in-Nothing.new.self rest none
