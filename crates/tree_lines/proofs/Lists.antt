-- Lists: an element of two lists joined, and facts of each element by recursion.
use Rattle.tree_lines.proofs.Common.{◌≡◌, ℕ, zero, suc, ◌+◌, ◌<◌, List, [], ◌∷◌, ◌++◌, length, map, take, slice_get, Some, refl, ap, ◌∙◌, arith, AllByRecursion, range_with_len, common_steps, take_more, map-append, slice_get_within, get_or_from_slice_get, through, slice_get-left}

pub get_left : {A : Type 0} (xs ys : List A) (k : ℕ) (y : A) → slice_get xs k ≡ Some y → slice_get (xs ++ ys) k ≡ Some y
get_left xs ys k y e = slice_get-left xs ys k (slice_get_within xs k y e) ∙ e

-- one element more of a front
pub front_more : {A : Type 0} (xs : List A) (i : ℕ) (x : A) → slice_get xs i ≡ Some x → take (i + 1) xs ≡ take i xs ++ x ∷ []
front_more xs i x e = take_more xs i x (slice_get_within xs i x e) ∙ ap (λ y. take i xs ++ y ∷ []) (get_or_from_slice_get xs i x x e)

-- each element has the property, by recursion on the list
abbrev pub Each : {A : Type 0} → (A → Type 0) → List A → Type 0
Each P xs = AllByRecursion P xs

pub each_append : {A : Type 0} (P : A → Type 0) (xs ys : List A) → Each P xs → Each P ys → Each P (xs ++ ys)
each_append P [] ys h k = k
each_append P (x ∷ xs) ys h k = (h.0, each_append P xs ys h.1 k)

pub each_parts : {A : Type 0} (P : A → Type 0) (xs ys : List A) → Each P (xs ++ ys) → Each P xs × Each P ys
each_parts P [] ys h = (tt, h)
each_parts P (x ∷ xs) ys h = let rest = each_parts P xs ys h.1 in ((h.0, rest.0), rest.1)

pub each_weaker : {A : Type 0} (P Q : A → Type 0) → ((x : A) → P x → Q x) → (xs : List A) → Each P xs → Each Q xs
each_weaker P Q f [] h = tt
each_weaker P Q f (x ∷ xs) h = (f x h.0, each_weaker P Q f xs h.1)

pub each_map : {A B : Type 0} (P : B → Type 0) (f : A → B) (xs : List A) → Each (λ x. P (f x)) xs → Each P (map f xs)
each_map P f [] h = tt
each_map P f (x ∷ xs) h = (h.0, each_map P f xs h.1)

pub each_take : {A : Type 0} (P : A → Type 0) (k : ℕ) (xs : List A) → Each P xs → Each P (take k xs)
each_take P zero xs h = tt
each_take P (suc k) [] h = tt
each_take P (suc k) (x ∷ xs) h = (h.0, each_take P k xs h.1)

pub each_get : {A : Type 0} (P : A → Type 0) (xs : List A) (k : ℕ) (x : A) → Each P xs → slice_get xs k ≡ Some x → P x
each_get P [] k x h e = absurd cc
each_get P (y ∷ ys) zero x h e = let same : y ≡ x = cc in rw same at h.0
each_get P (y ∷ ys) (suc k) x h e = each_get P ys k x h.1 e

-- what holds of `own` where nothing follows it, and of `own` before each of the lists, holds of what goes through it
pub each_through : {A : Type 0} (P Q : List A → Type 0) (own : List A) (ls : List (List A)) → (ls ≡ [] → P own)
    → ((l : List A) → Q l → P (own ++ l)) → Each Q ls → Each P (through own ls)
each_through P Q own [] alone before h = (alone refl, tt)
each_through P Q own (l ∷ ls) alone before h = each_map P (λ rest. own ++ rest) (l ∷ ls) (each_weaker Q (λ rest. P (own ++ rest)) before (l ∷ ls) h)

-- what goes through images is the image of what goes through them
pub map-through : {A B : Type 0} (f : A → B) (own : List A) (ls : List (List A)) → map (map f) (through own ls) ≡ through (map f own) (map (map f) ls)
map-through f own [] = refl
map-through f own (l ∷ []) = let one = map-append f own l in cc
map-through f own (l ∷ m ∷ ls) = let one = map-append f own l in let rest = map-through f own (m ∷ ls) in cc

pub element : {A : Type 0} (xs : List A) (k : ℕ) → k < length xs → (x : A) × (slice_get xs k ≡ Some x)
element [] k lt = absurd (omega arith)
element (x ∷ xs) zero lt = (x, refl)
element (x ∷ xs) (suc k) lt = element xs k (omega arith)

pub range_append : (at n m : ℕ) → range_with_len at n ++ range_with_len (at + n) m ≡ range_with_len at (n + m)
range_append at zero m = let same : at + 0 ≡ at = omega arith in let none : 0 + m ≡ m = omega arith in rw (same, none) refl
range_append at (suc n) m =
    let sum : suc n + m ≡ suc (n + m) = omega arith in
    grind (arith, common_steps, (range_append (at + 1) n m))
