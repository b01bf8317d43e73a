use Rattle.sgf_properties.proofs.Common.{◌≡◌, ℕ, true, false, eqb, ltb, arith, w8, chunk, length-chunk, bitmask_splat, is_literal, nat_tests}
use Rattle.sgf_properties.proofs.NearBits.{before-lowest}
use Rattle.sgf_properties.proofs.quick.literals.near_literals.Goals as goal

-- a byte that is neither a `\` nor below 14 stands for itself
literal-by-tests : (b : ℕ) → eqb b 92 ≡ false → ltb b 14 ≡ false → is_literal b ≡ true
literal-by-tests b other above = grind (arith, nat_tests)

pub returns-clause-literal : goal.returns-clause-literal
returns-clause-literal c i low high =
    let t = c.args.raw.now in
    let at = c.args.at in
    let long = length-chunk at 16 t c.requires in
    let escape = before-lowest (λ x. eqb x 92) t at c.requires _ c.min.result i (bitmask_splat w8 eqb (chunk at 16 t) 16 92 long (omega arith)) (omega (arith, c.min.ensures)) (omega (arith, c.min.ensures, c.min-zeros.ensures)) low high in
    let control = before-lowest (λ x. ltb x 14) t at c.requires _ c.min.result i (bitmask_splat w8 ltb (chunk at 16 t) 16 14 long (omega arith)) (omega (arith, c.min.ensures)) (omega (arith, c.min.ensures, c.min-zeros.ensures)) low high in
    literal-by-tests _ escape control
