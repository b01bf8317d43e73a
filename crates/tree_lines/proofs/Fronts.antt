-- Nodes in sequences, by the indices where these end.
use Rattle.tree_lines.proofs.Common.{◌≡◌, ℕ, zero, suc, ◌+◌, ◌-◌, ◌≤◌, List, [], ◌∷◌, ◌++◌, length, get_or, take, drop, map, slice_get, Some, refl, sym, ap, ◌∙◌, arith, add-one, flat_map, take-append-drop, take-take, length-drop, length-take-le, drop-drop, concat, take-append_seam, common_steps, slice_get_within, flat_map-append, drop-take, drop_all, Continues, RiseTo, nodes_in, parts_from}

-- where the first `k` parts end
abbrev pub end_of : ℕ → List ℕ → ℕ → ℕ
end_of start ends k = get_or (start ∷ ends) k 0

pub as_many_parts : {A : Type 0} (start : ℕ) (ends : List ℕ) (xs : List A) → length (parts_from start ends xs) ≡ length ends
as_many_parts start [] xs = refl
as_many_parts start (end ∷ ends) xs = ap suc (as_many_parts end ends (drop (end - start) xs))

pub rises_over : (start : ℕ) (ends : List ℕ) (count : ℕ) → RiseTo start ends count → start + length ends ≤ count
rises_over start [] count h = omega arith
rises_over start (end ∷ ends) count h = omega (arith, h.0, rises_over end ends count h.1)

-- the first `k` parts have an element each, and no more elements than there are
pub rises_through : (start : ℕ) (ends : List ℕ) (count k : ℕ) → RiseTo start ends count → k ≤ length ends → (start + k ≤ end_of start ends k) × (end_of start ends k ≤ count)
rises_through start ends count zero h le = (omega arith, omega (arith, rises_over start ends count h))
rises_through start [] count (suc k) h le = absurd (omega arith)
rises_through start (end ∷ ends) count (suc k) h le = let rest = rises_through end ends count k h.1 (omega arith) in (omega (arith, rest.0, h.0), rest.1)

rises_all : (start : ℕ) (ends : List ℕ) (count : ℕ) → RiseTo start ends count → end_of start ends (length ends) ≡ count
rises_all start [] count h = h
rises_all start (end ∷ ends) count h = rises_all end ends count h.1

-- an element of the parts stands before those after it
part_then : {A : Type 0} (start : ℕ) (ends : List ℕ) (xs : List A) (count k : ℕ) (part : List A) → RiseTo start ends count → slice_get (parts_from start ends xs) k ≡ Some part
    → drop (end_of start ends k - start) xs ≡ part ++ drop (end_of start ends (suc k) - start) xs
part_then start [] xs count k part h e = absurd cc
part_then start (end ∷ ends) xs count zero part h e = grind (arith, common_steps, take-append-drop)
part_then start (end ∷ ends) xs count (suc k) part h e =
    let len = slice_get_within (parts_from end ends (drop (end - start) xs)) k part e in
    grind (arith, common_steps, as_many_parts, rises_through, drop-drop, (part_then end ends (drop (end - start) xs) count k part h.1 e))

-- the same of the parts of a line
pub next_part : {A : Type 0} (ends : List ℕ) (xs : List A) (count k : ℕ) (part : List A) → RiseTo 0 ends count → Some part ≡ slice_get (parts_from 0 ends xs) k
    → drop (nodes_in ends k) xs ≡ part ++ drop (nodes_in ends (k + 1)) xs
next_part ends xs count k part h e =
    let none : (n : ℕ) → n - 0 ≡ n = λ n. omega arith in
    ap (λ n. drop n xs) (sym (none (nodes_in ends k))) ∙ part_then 0 ends xs count k part h (sym e) ∙ ap (λ n. part ++ drop n xs) (none (nodes_in ends (suc k)) ∙ ap (nodes_in ends) (sym (add-one k)))

-- nothing comes after all of them
pub none_after : {A : Type 0} (ends : List ℕ) (xs : List A) (count k : ℕ) → RiseTo 0 ends count → length xs ≡ count → k ≡ length ends → drop (nodes_in ends k) xs ≡ []
none_after ends xs count k h many last = grind (arith, common_steps, rises_all, drop_all)

-- The first parts depend on their ends and on their elements.
pub alike : {A : Type 0} (start : ℕ) (ends others : List ℕ) (xs ys : List A) (count k : ℕ) → RiseTo start ends count → k ≤ length ends → take k ends ≡ take k others
    → take (end_of start ends k - start) xs ≡ take (end_of start ends k - start) ys → take k (parts_from start ends xs) ≡ take k (parts_from start others ys)
alike start ends others xs ys count zero h le same e = refl
alike start [] others xs ys count (suc k) h le same e = absurd (omega arith)
alike start (end ∷ ends) [] xs ys count (suc k) h le same e = absurd cc
alike start (end ∷ ends) (other ∷ others) xs ys count (suc k) h le same e =
    let first : end ≡ other = cc in
    let rest : take k ends ≡ take k others = cc in
    let g = end_of end ends k in
    let within = rises_through end ends count k h.1 (omega arith) in
    let sum : g - start ≡ end - start + (g - end) = omega (arith, within.0, h.0) in
    let whole : take (end - start + (g - end)) xs ≡ take (end - start + (g - end)) ys = rw (← sum) e in
    let fronts : take (end - start) xs ≡ take (end - start) ys =
    sym (take-take (end - start) (end - start + (g - end)) xs (omega arith)) ∙ ap (take (end - start)) whole ∙ take-take (end - start) (end - start + (g - end)) ys (omega arith) in
    let backs : take (g - end) (drop (end - start) xs) ≡ take (g - end) (drop (end - start) ys) =
    sym (drop-take (end - start) (g - end) xs) ∙ ap (drop (end - start)) whole ∙ drop-take (end - start) (g - end) ys in
    grind (arith, common_steps, (alike end ends others (drop (end - start) xs) (drop (end - start) ys) count k h.1 (omega arith) rest backs))

-- the texts of the parts are that of all elements
pub parts_text : {A : Type 0} (f : A → List ℕ) (start : ℕ) (ends : List ℕ) (xs : List A) (count : ℕ) → count ≡ start + length xs → RiseTo start ends count
    → concat (map (flat_map f) (parts_from start ends xs)) ≡ flat_map f xs
parts_text f start [] [] count is h = refl
parts_text f start [] (x ∷ xs) count is h = absurd (omega (arith, is, h))
parts_text f start (end ∷ ends) xs count is h =
    let over = rises_over end ends count h.1 in
    let rest = parts_text f end ends (drop (end - start) xs) count (omega (arith, is, length-drop (end - start) xs, over, h.0)) h.1 in
    grind (arith, common_steps, flat_map-append f (take (end - start) xs) (drop (end - start) xs), take-append-drop (end - start) xs)

pub front_kept : (old : List ℕ) (kept : ℕ) (new : List ℕ) → Continues old kept new → take kept new ≡ take kept old
front_kept old kept new h = grind (arith, common_steps, length-take-le, take-append_seam)
