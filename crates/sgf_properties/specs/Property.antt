-- A property of a node of an SGF text (SGF FF[4], EBNF).
use Rattle.std.specs.Prelude.{ℕ, List, ◌∷◌}

-- a property: its name, and its raw values, at least one
pub record Property : Type 0 where
  pub name : List ℕ
  pub first : List ℕ
  pub more : List (List ℕ)

-- all values of a property, in file order
abbrev pub values : Property → List (List ℕ)
values p = p.first ∷ p.more
