-- What is kept of long values, of a text and of what is left of it from an offset on.
use Rattle.sgf_properties.proofs.Common.{All-push, ◌≡◌, ℕ, ◌+◌, ◌-◌, ◌≤◌, List, [], ◌∷◌, ◌++◌, length, drop, subst, length-drop, get_or-drop, arith, drop-drop, common_steps, IsValueEnd}
use Rattle.sgf_properties.specs.KeptLengths.{IsKeptLength, AreKeptLengths}
use Rattle.sgf_properties.specs.declared.value.LongValue.{LongValue}

module _ (t : List ℕ) (from : ℕ) where
  ends-drop : (at bytes : ℕ) → IsValueEnd t (from + at) (from + at + bytes) → IsValueEnd (drop from t) at (at + bytes)
  ends-drop at bytes h = grind (arith, common_steps, drop-drop, length-drop, get_or-drop)

  -- what is kept of a text holds of each part that goes up to its end
  pub kept-drop : (ls : List LongValue) → from ≤ length t → AreKeptLengths t ls → AreKeptLengths (drop from t) ls
  kept-drop ls within kept i d lt at e =
      ends-drop at _ (kept i d lt (from + at) (omega (arith, e, length-drop from t)))

-- one more value
pub kept-push : (t : List ℕ) (ls : List LongValue) (at end : ℕ) → AreKeptLengths t ls → at ≤ length t → IsValueEnd t at end
    → AreKeptLengths t (ls ++ record { left = length t - at; bytes = end - at } ∷ [])
kept-push t ls at end kept within h =
    All-push (IsKeptLength t) ls (record { left = length t - at; bytes = end - at }) kept (λ other e. grind (arith, common_steps, h.rises))
