-- A node whose first property is looked at, and whose other properties don't matter.
use Rattle.std.specs.Prelude.{◌≡◌, ◌≢◌, ℕ, List, ◌∷◌, length, All}
use Rattle.sgf_outline.specs.Tree.{Property}

-- the name has two letters, and isn't among these names
pub record IsOtherName (names : List (List ℕ)) (name : List ℕ) : Type 0 where
  pub letters : length name ≡ 2
  pub other : All (λ known. name ≢ known) names

-- the properties are this one, and after it only properties with other names than these
pub record IsLedBy (names : List (List ℕ)) (first : Property) (properties : List Property) : Type 0 where
  pub rest : List Property
  pub all : properties ≡ first ∷ rest
  pub others : All (λ property. IsOtherName names property.name) rest
