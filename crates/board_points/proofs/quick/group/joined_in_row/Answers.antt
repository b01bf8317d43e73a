use Rattle.board_points.proofs.Common.{◌≡◌, ◌≢◌, ℕ, true, inl, inr, refl, sym, ap, ◌∙◌, subst, slice_index, or-true, cases_eq, false≢true, has_bit, HasBeside, IsPart}
use Rattle.board_points.proofs.WordLemmas.{has_bit-zero}
use Rattle.board_points.proofs.quick.group.joined_in_row.Goals as goal

-- a word with one column has no other
one_column : (from col word : ℕ) → col ≡ from → ((k : ℕ) → k ≢ col → has_bit word k ≡ has_bit 0 k) → (k : ℕ) → has_bit word k ≡ true → k ≡ from
one_column from col word at elsewhere k is =
    elim (cases_eq k col) as (λ _. k ≡ from) [
      | inl same ↦ same ∙ at
      | inr other ↦ absurd (false≢true (sym (has_bit-zero k) ∙ sym (elsewhere k other) ∙ is))
    ]

pub returns : goal.returns
returns c = record {
  start = c.widened-joined.ensures.kept c.args.from.col
      (ap (has_bit c.with_column-stone.result) (sym c.from.ensures) ∙ c.with_column-stone.ensures.there ∙ or-true (has_bit 0 c.from.result));
  within = subst (λ r. IsPart (has_bit c.widened-joined.result.0) (has_bit (slice_index c.args.own.now r))) c.from-2.ensures c.widened-joined.ensures.within;
  closed = subst (λ r. HasBeside (has_bit (slice_index c.args.own.now r)) (has_bit c.widened-joined.result.0)) c.from-2.ensures c.widened-joined.ensures.closed;
  linked = λ col is set closed has.
      c.widened-joined.ensures.least (λ k. set (record { col = k; row = c.args.from.row }))
      (λ k beside differ there in_set.
      closed (record { col = k; row = c.args.from.row }) (record { col = beside; row = c.args.from.row }) (inr (refl, differ))
      (ap (λ r. has_bit (slice_index c.args.own.now r) k) (sym c.from-2.ensures) ∙ there) in_set)
      (λ k in_stone.
      ap (λ n. set (record { col = n; row = c.args.from.row })) (one_column c.args.from.col c.from.result c.with_column-stone.result c.from.ensures c.with_column-stone.ensures.elsewhere k in_stone) ∙ has)
      col is;
}
