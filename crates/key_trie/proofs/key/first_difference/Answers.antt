use Rattle.key_trie.proofs.Common.{◌≡◌, ◌+◌, ◌*◌, ◌<◌, ◌^◌, bit_xor, w64, inl, inr, ap, subst, ◌∙◌, arith, cases_lt, Agree, bit_at, trailing_zeros, bit_at-trailing_zeros, bit_at-zero}
use Rattle.std.proofs.Math.Facts.{Fits-lt-pow, Fits-xor, Fits-of_lt}
use Rattle.key_trie.proofs.KeyLemmas.{agree_farther, parts_there}
use Rattle.key_trie.proofs.key.first_difference.Goals as goal

pub returns-then-apart-ne0 : goal.returns-then-apart-ne0
returns-then-apart-ne0 g c =
    let a = c.word.result in
    let b = c.word-in-words.result in
    let low : bit_xor a b < 2 ^ 64 = Fits-lt-pow (Fits-xor {w = w64} (Fits-of_lt c.word.type_inv) (Fits-of_lt c.word-in-words.type_inv)) in
    let some : 0 < bit_xor a b = elim (cases_lt 0 (bit_xor a b)) [ inl some ↦ some | inr none ↦ absurd (c.if-apart-ne0.true (omega (arith, none))) ] in
    let found = bit_at-trailing_zeros w64 (bit_xor a b) some low in
    let col = trailing_zeros w64 (bit_xor a b) in (
      omega (arith, found.0, c.words-test.true),
      agree_farther (g.K.Key.bits c.args.one.now) (g.K.Key.bits c.args.other.now) a b c.words.index c.word.ensures c.word-in-words.ensures c.words.invariant col (omega (arith, found.0)) found.2,
      parts_there (g.K.Key.bits c.args.one.now) (g.K.Key.bits c.args.other.now) a b c.words.index c.word.ensures c.word-in-words.ensures c.words.invariant col found.0 found.1,
    )

pub words-preserved : goal.words-preserved
words-preserved g c =
    let a = c.word.result in
    let b = c.word-in-words.result in
    let next : 64 * c.words.index + 64 ≡ 64 * (c.words.index + 1) = omega arith in
    subst (λ n. Agree (g.K.Key.bits c.args.one.now) (g.K.Key.bits c.args.other.now) n) next
    (agree_farther (g.K.Key.bits c.args.one.now) (g.K.Key.bits c.args.other.now) a b c.words.index c.word.ensures c.word-in-words.ensures c.words.invariant 64 (omega arith)
    (λ i h. ap (λ n. bit_at n i) c.if-apart-ne0.false ∙ bit_at-zero i))
