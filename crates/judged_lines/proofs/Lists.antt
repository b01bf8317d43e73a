-- The elements of a list after its first ones, and of its front; and texts of elements that are appended one after the other.
use Rattle.judged_lines.proofs.Common.{common_steps, ◌≡◌, ℕ, suc, length, slice_get, ap, arith, zero, ◌+◌, ◌<◌, ◌≤◌, List, [], ◌∷◌, ◌++◌, take, drop, None, Some, refl, sym, ◌∙◌, append_assoc, add-one, append-nil, flat_map}

pub get_dropped : {X : Type 0} (xs : List X) (g k : ℕ) → slice_get (drop g xs) k ≡ slice_get xs (g + k)
get_dropped xs zero k = let same : k ≡ 0 + k = omega arith in ap (λ n. slice_get xs n) same
get_dropped [] (suc g) k = refl
get_dropped (x ∷ xs) (suc g) k = grind (arith, common_steps, get_dropped xs g k)

pub get_taken : {X : Type 0} (xs : List X) (n k : ℕ) → k < n → slice_get (take n xs) k ≡ slice_get xs k
get_taken xs zero k lt = absurd (omega arith)
get_taken [] (suc n) k lt = refl
get_taken (x ∷ xs) (suc n) zero lt = refl
get_taken (x ∷ xs) (suc n) (suc k) lt = get_taken xs n k (omega arith)

pub get_none : {X : Type 0} (xs : List X) (k : ℕ) → slice_get xs k ≡ None → length xs ≤ k
get_none [] k e = omega arith
get_none (x ∷ xs) zero e = absurd cc
get_none (x ∷ xs) (suc k) e = omega (arith, get_none xs k e)

-- one more element
pub more_texts : {X : Type 0} (f : X → List ℕ) (xs : List X) (i : ℕ) (x : X) → slice_get xs i ≡ Some x → flat_map f (take i xs) ++ f x ≡ flat_map f (take (suc i) xs)
more_texts f [] i x e = absurd cc
more_texts f (y ∷ ys) zero x e = let same : y ≡ x = cc in ap f (sym same) ∙ sym (append-nil (f y))
more_texts f (y ∷ ys) (suc i) x e = append_assoc (f y) (flat_map f (take i ys)) (f x) ∙ ap (λ bs. f y ++ bs) (more_texts f ys i x e)

pub joins : {X : Type 0} (f : X → List ℕ) (old front : List ℕ) (xs : List X) (i : ℕ) (x : X) (now new : List ℕ) → slice_get xs i ≡ Some x
    → now ≡ old ++ (front ++ flat_map f (take i xs)) → new ≡ now ++ f x → new ≡ old ++ (front ++ flat_map f (take (i + 1) xs))
joins f old front xs i x now new e now_is new_is = grind (arith, common_steps, append_assoc, add-one, more_texts)
