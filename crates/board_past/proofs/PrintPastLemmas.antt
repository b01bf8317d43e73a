-- The prints of past colourings.
use Rattle.board_past.proofs.Common.{◌≡◌, ℕ, zero, suc, ◌-◌, ◌<◌, List, [], ◌∷◌, Some, length, get_or, drop, reverse, sym, ap, ◌∙◌, arith, get_or-reverse, length-reverse, length-map, same_Some, Grid, Held, first_grid, IsNumber, print_of, prints_of}

-- the colouring at an index of the list, newest first
abbrev pub IsAt : List Held → ℕ → Grid → Type 0
IsAt held j g = first_grid (drop j held) ≡ Some g

-- its print is at that index of the prints
print-at : (held : List Held) (j : ℕ) (g : Grid) → j < length held → IsAt held j g → get_or (prints_of held) j 0 ≡ print_of g
print-at [] j g h at = absurd (omega (arith, h))
print-at (x ∷ xs) zero g h at = ap print_of (same_Some x.colouring g at)
print-at (x ∷ xs) (suc j) g h at = print-at xs j g (omega (arith, h)) at

module _ (held : List Held) (prints : List ℕ) (kept : reverse prints ≡ prints_of held) where
  pub same_length : length prints ≡ length held
  same_length = sym (length-reverse prints) ∙ ap (λ (xs : List ℕ). length xs) kept ∙ length-map held (λ (h : Held). print_of h.colouring)

  -- a colouring has its print at its number
  pub print-number : (y : ℕ) (g : Grid) → y < length held → IsNumber held y g → get_or prints y 0 ≡ print_of g
  print-number y g h at =
      let j = length held - 1 - y in
      let lt : j < length prints = omega (arith, same_length) in
      let back : length prints - 1 - j ≡ y = omega (arith, same_length) in
      sym (ap (λ k. get_or prints k 0) back) ∙ sym (get_or-reverse prints j 0 lt) ∙ ap (λ xs. get_or xs j 0) kept
      ∙ print-at held j g (omega arith) at
