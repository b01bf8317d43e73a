-- The newest stretch of past colourings that stand oldest first, looked at from the newest on.
use Rattle.board_past.proofs.Common.{◌≡◌, ◌≢◌, ℕ, ◌+◌, ◌<◌, ◌⊎◌, true, false, List, [], ◌∷◌, length, get_or, take, reverse, Bool, Contains, ap, ◌∙◌, arith, cond, reverse-append, take_more, Contains-append_right, Grid, Held, stretch_of}

-- a list has its first element, what the rest has, and nothing else
pub Contains-cases : (x y : Grid) (xs : List Grid) → Contains (x ∷ xs) y → (x ≡ y) ⊎ Contains xs y
Contains-cases x y xs given = grind arith

-- a stretch goes on after its first colouring only if that doesn't begin it
pub going_on : (x y : Grid) (b : Bool) (xs : List Grid) → b ≡ false → Contains xs y → Contains (x ∷ cond b [] xs) y
going_on x y false xs e h = Contains-append_right (x ∷ []) xs y h
going_on x y true xs e h = absurd (cc)

pub only_later : (x y : Grid) (b : Bool) (xs : List Grid) → x ≢ y → Contains (x ∷ cond b [] xs) y → (b ≡ false) × Contains xs y
only_later x y b xs other h = grind (arith, Contains-cases)

module _ (all : List Held) (g : Grid) where
  -- the stretch of the first n colourings has it
  abbrev pub Has : ℕ → Type 0
  Has n = Contains (stretch_of (reverse (take n all))) g

  more : (i n : ℕ) (d : Held) → i ≡ n + 1 → n < length all → stretch_of (reverse (take i all)) ≡ (get_or all n d).colouring ∷ cond (get_or all n d).begins [] (stretch_of (reverse (take n all)))
  more i n d next low =
      ap (λ k. stretch_of (reverse (take k all))) next ∙ ap (λ l. stretch_of (reverse l)) (take_more all n d low)
      ∙ ap stretch_of (reverse-append (take n all) (get_or all n d ∷ []))

  pub Has-none : (i : ℕ) → i ≡ 0 → Has i → ⊥
  Has-none i e h = let none : Contains [] g = rw e at h in absurd (omega (arith, none.1))

  pub Has-found : (i n : ℕ) (d : Held) → i ≡ n + 1 → n < length all → (get_or all n d).colouring ≡ g → Has i
  Has-found i n d next low same = rw (more i n d next low) (0, omega arith, same)

  pub Has-more : (i n : ℕ) (d : Held) → i ≡ n + 1 → n < length all → (get_or all n d).begins ≡ false → Has n → Has i
  Has-more i n d next low on h = rw (more i n d next low) (going_on _ _ (get_or all n d).begins _ on h)

  pub Has-cases : (i n : ℕ) (d : Held) → i ≡ n + 1 → n < length all → (get_or all n d).colouring ≢ g → Has i → ((get_or all n d).begins ≡ false) × Has n
  Has-cases i n d next low other h = only_later _ _ (get_or all n d).begins _ other (rw (more i n d next low) at h)
