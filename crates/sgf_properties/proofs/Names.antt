-- The letters of an identifier that are its name, one letter after another.
use Rattle.sgf_properties.proofs.Common.{◌≡◌, ◌≢◌, ℕ, ◌+◌, ◌<◌, ◌≤◌, Bool, true, cond, List, ◌∷◌, ◌++◌, length, get_or, take, drop, filter, sym, ap, ◌∙◌, length-append, take-append-drop, rules, arith, common_steps, drop_more, get_or_at, filter-append}

module _ (p : ℕ → Bool) (xs : List ℕ) (i : ℕ) (within : i < length xs) where
  -- where the name so far is the front of ys, and the next letter doesn't go on as ys does, the name is not ys
  pub filter_other : (ys : List ℕ) (m : ℕ) → m ≤ length ys → filter p (take i xs) ≡ take m ys → p (get_or xs i 0) ≡ true → (m < length ys → get_or ys m 0 ≢ get_or xs i 0) → filter p xs ≢ ys
  filter_other ys m le front capital other same =
      let rest : List ℕ = filter p (drop (i + 1) xs) in
      let parts : filter p xs ≡ take m ys ++ get_or xs i 0 ∷ rest = grind (arith, common_steps, take-append-drop i xs, filter-append p (take i xs) (drop i xs), drop_more xs i 0 within) in
      search (rules, get_or_at, length-append)
