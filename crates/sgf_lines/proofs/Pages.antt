-- The lines of a page among all lines. Their places rise, so the line with a place is found, and pages join.
use Rattle.sgf_lines.proofs.Common.{drop-append-add, common_steps, slice_get-map, slice_get_within, get_or_from_slice_get, PlacesRise, Games, CursorState, IsAfterPlace, Line, lines, place_of, Options, lines_after, lines_asked, limited, page, ◌≡◌, ℕ, suc, length, map, slice_get, Some, option_map, sym, ap, ◌∙◌, slice_index, add-one, arith, ◌≢◌, zero, ◌+◌, ◌<◌, List, [], ◌∷◌, drop, Option, None, refl, ◌++◌, append_assoc, append-nil, Bool, true, false, take-append-drop, ◌==◌, eq-eqb, ne_eqb}
use Rattle.std.specs.List.Sorted.{IsStrictlyIncreasing}
use Rattle.std.proofs.lemmas.List.Kept.{AllPairs-from_increasing}
use Rattle.tree_lines.proofs.LinePlaces.{lines_rise}
use Rattle.sgf_outline.proofs.Lists.{slice_get-right}

-- the first line with a place is the one that it is looked for at, where no line before has it
pub found_at : (ls : List Line) (k place : ℕ) → option_map place_of (slice_get ls k) ≡ Some place
    → ((j : ℕ) → j < k → option_map place_of (slice_get ls j) ≢ Some place) → lines_after ls place ≡ Some (drop (suc k) ls)
found_at [] k place e none = absurd cc
found_at (l ∷ ls) zero place e none = grind (arith, common_steps, eq-eqb)
found_at (l ∷ ls) (suc k) place e none =
    let other : place_of l ≢ place = λ same. none 0 (omega arith) (ap Some same) in
    rw (ne_eqb (place_of l) place other) (found_at ls k place e (λ j lt at. none (suc j) (omega arith) at))

-- where places rise, the lines after the one with a place are those after its index
pub after_index : (ls : List Line) (k place : ℕ) → IsStrictlyIncreasing (map place_of ls) → option_map place_of (slice_get ls k) ≡ Some place
    → lines_after ls place ≡ Some (drop (k + 1) ls)
after_index ls k place rise e = rw add-one (found_at ls k place e (λ j lt other.
    let places = map place_of ls in
    let here : slice_get places k ≡ Some place = slice_get-map place_of ls k ∙ e in
    let before : slice_get places j ≡ Some place = slice_get-map place_of ls j ∙ other in
    let below : slice_index places j < slice_index places k = AllPairs-from_increasing places rise j k 0 lt (slice_get_within places k place here) in
    omega (arith, below, get_or_from_slice_get places k place 0 here, get_or_from_slice_get places j place 0 before)))

-- a cursor after the line with a place stands before the page
pub started : (c : Games) (after : Option ℕ) (place : ℕ) (at new : CursorState) → after ≡ Some place → at ≡ record { games = c; index = 0 } → IsStrictlyIncreasing (map place_of (lines c))
    → IsAfterPlace place at new → lines_asked (lines c) after ≡ Some (drop new.index (lines c))
started c after place at new is at_is rise s = grind (arith, common_steps, after_index)

-- the lines after a place end the list
ends_list : (ls : List Line) (place : ℕ) (tail : List Line) → lines_after ls place ≡ Some tail → (before : List Line) × (ls ≡ before ++ tail)
ends_list [] place tail e = absurd cc
ends_list (l ∷ ls) place tail e = by (place_of l == place) refl (λ later. ends_list ls place tail later)
  where
    by : (b : Bool) → (place_of l == place) ≡ b → (lines_after ls place ≡ Some tail → (before : List Line) × (ls ≡ before ++ tail)) → (before : List Line) × (l ∷ ls ≡ before ++ tail)
    by true is below = let here : Some ls ≡ Some tail = rw is at e in let same : ls ≡ tail = cc in (l ∷ [], ap (λ xs. l ∷ xs) same)
    by false is below = let f = below (rw is at e) in (l ∷ f.0, ap (λ xs. l ∷ xs) f.1)

pub tail_of : (ls : List Line) (after : Option ℕ) (tail : List Line) → lines_asked ls after ≡ Some tail → (before : List Line) × (ls ≡ before ++ tail)
tail_of ls after tail e = grind (arith, common_steps, ends_list)

-- a limit leaves a front
pub front_of : (limit : Option ℕ) (tail front : List Line) → limited limit tail ≡ front → (rest : List Line) × (tail ≡ front ++ rest)
front_of None tail front e = ([], e ∙ sym (append-nil front))
front_of (Some n) tail front e = (drop n tail, sym (take-append-drop n tail) ∙ ap (λ xs. xs ++ drop n tail) e)

mapped : (limit : Option ℕ) (o : Option (List Line)) (ls : List Line) → option_map (limited limit) o ≡ Some ls → (tail : List Line) × (o ≡ Some tail) × (limited limit tail ≡ ls)
mapped limit o ls e = grind (arith, common_steps)

-- the lines of a page stand side by side
pub on_page : (c : Games) (o : Options) (asked : List Line) → page o c ≡ Some asked → (before after : List Line) × (lines c ≡ before ++ (asked ++ after))
on_page c o asked e =
    let m = mapped o.limit (lines_asked (lines c) o.after) asked e in
    grind (arith, common_steps, front_of o.limit m.0 asked m.2, tail_of (lines c) o.after m.0 m.1)

-- what comes after the last line of a page, and that it completes the page
pub record GoesOn (o : Options) (c : Games) (front : List Line) (last : Line) : Type 0 where
  pub rest : List Line
  pub after : lines_after (lines c) (place_of last) ≡ Some rest
  pub whole : lines_asked (lines c) o.after ≡ Some (front ++ last ∷ rest)

pub goes_on : (c : Games) (o : Options) (front : List Line) (last : Line) → PlacesRise c → page o c ≡ Some (front ++ last ∷ []) → GoesOn o c front last
goes_on c o front last rise e =
    let m = mapped o.limit (lines_asked (lines c) o.after) (front ++ last ∷ []) e in
    let f = front_of o.limit m.0 (front ++ last ∷ []) m.2 in
    let tail : m.0 ≡ front ++ last ∷ f.0 = f.1 ∙ append_assoc front (last ∷ []) f.0 in
    let t = tail_of (lines c) o.after m.0 m.1 in
    let all : lines c ≡ (t.0 ++ front) ++ last ∷ f.0 = t.1 ∙ ap (λ xs. t.0 ++ xs) tail ∙ sym (append_assoc t.0 front (last ∷ f.0)) in
    let k = length (t.0 ++ front) in
    let here : slice_get (lines c) k ≡ Some last = ap (λ ls. slice_get ls k) all ∙ slice_get-right (t.0 ++ front) (last ∷ f.0) k 0 (omega arith) in
    let left : drop (k + 1) (lines c) ≡ f.0 = ap (drop (k + 1)) all ∙ drop-append-add (t.0 ++ front) (last ∷ f.0) 1 in
    grind (arith, common_steps, after_index, lines_rise c rise)
