-- An element of two lists joined.
use Rattle.sgf_outline.proofs.Common.{slice_get_cases, common_steps, ◌≡◌, ℕ, ◌+◌, ◌<◌, ◌≤◌, ◌⊎◌, List, [], ◌∷◌, ◌++◌, length, get_or, slice_get, Some, arith}

-- an element of the first of two lists
pub slice_get-left : {A : Type 0} (xs ys : List A) (i : ℕ) → i < length xs → slice_get (xs ++ ys) i ≡ slice_get xs i
slice_get-left xs ys i h = grind (arith, common_steps, slice_get_cases)

-- an element of the second one
pub slice_get-right : {A : Type 0} (xs ys : List A) (i k : ℕ) → i ≡ length xs + k → slice_get (xs ++ ys) i ≡ slice_get ys k
slice_get-right xs ys i k h = grind (arith, common_steps, slice_get_cases)

-- an element of a list with one more is one of the list, or the last one
pub slice_get-pushed : {A : Type 0} (xs : List A) (y x : A) (i : ℕ) → slice_get (xs ++ y ∷ []) i ≡ Some x → (slice_get xs i ≡ Some x) ⊎ ((i ≡ length xs) × (y ≡ x))
slice_get-pushed xs y x i h = grind (arith, common_steps, slice_get_cases)

-- an element of a list; another one may follow it
pub get_or-joined : (xs ys : List ℕ) (i d e : ℕ) → i ≤ length xs → get_or ys 0 d ≡ e → get_or (xs ++ ys) i d ≡ get_or xs i e
get_or-joined xs ys i d e le first = grind (arith, common_steps)
