-- The last number of a list stands at its length less 1.
use Rattle.tree_lines.proofs.Common.{◌≡◌, ℕ, ◌-◌, ◌<◌, List, [], ◌∷◌, length, slice_index_or, suc, refl, arith, last_number}
use Rattle.tree_lines.proofs.line.LineRef.leaf.Goals as goal

last_at : (ns : List ℕ) → 0 < length ns → slice_index_or ns (length ns - 1) 0 ≡ last_number ns
last_at [] lt = absurd (omega arith)
last_at (n ∷ []) lt = refl
last_at (n ∷ m ∷ ms) lt = let less : length (n ∷ m ∷ ms) - 1 ≡ suc (length (m ∷ ms) - 1) = omega arith in rw less (last_at (m ∷ ms) (omega arith))

pub returns : goal.returns
returns c = rw (← c.path-path.ensures.numbers) (last_at c.path-path.result.now c.path-path.ensures.some_node)
