-- Taking the elements of a list off its front, one after another.
use Rattle.sgf_properties.proofs.Common.{◌≡◌, ℕ, ◌<◌, List, [], ◌∷◌, ◌++◌, map, length, slice_get, Option, Some, ap, ◌∙◌, append-nil, arith, length-append, rules, length-map, get_or-append_seam}
use Rattle.std.proofs.lemmas.Option.{slice_get-get_or}
use Rattle.std.specs.Iterator.{YieldsFirstBy, Yields, SkipsThenYields}

-- the element after a front
after-front : {A : Type 0} (front : List A) (x : A) (rest : List A) → slice_get (front ++ x ∷ rest) (length front) ≡ Some x
after-front front x rest =
    let within : length front < length (front ++ x ∷ rest) = omega (arith, length-append front (x ∷ rest)) in
    slice_get-get_or (front ++ x ∷ rest) (length front) x within ∙ ap Some (get_or-append_seam front x rest x)

-- a step gives an element that f shows
module _ {A B : Type 0} (f : B → A) where
  came : (s : List A) (xs : List B) (t : List A) → Yields (YieldsFirstBy f (λ (l : List A). l)) s xs t → s ≡ map f xs ++ t
  came s [] t e = e
  came s (x ∷ xs) t (j, step, rest) = step ∙ ap (λ u. f x ∷ u) (came j xs t rest)

  -- where none is left, so many were taken
  pub taken-all : (s : List A) (xs : List B) (t : List A) → Yields (YieldsFirstBy f (λ (l : List A). l)) s xs t → t ≡ [] → length xs ≡ length s
  taken-all s xs t h none = search (rules, came, length-map, append-nil)

  -- the element after so many is the one of that number
  pub taken-at : (s : List A) (n : ℕ) (r : Option B) (u : List A) (x : B) → SkipsThenYields (YieldsFirstBy f (λ (l : List A). l)) s n r u → r ≡ Some x → slice_get s n ≡ Some (f x)
  taken-at s n r u x h k = search (rules, came, length-map, after-front)
