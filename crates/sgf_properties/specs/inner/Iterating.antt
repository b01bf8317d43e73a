-- Going over properties and values: words of the views and invariants in `property` and `iter`, and of private contracts in `iter`.
use Rattle.std.specs.Prelude.{◌≡◌, ℕ, ◌+◌, ◌<◌, ◌≤◌, List, ◌∷◌, length, drop, slice_range, IsTrue, Option, None, Some}
use Rattle.sgf_properties.specs.Spelling.{is_upper, IsPropValue, ArePropValues}

-- the values that are left; if the first is given, it comes before the others
abbrev pub values_left : Option (List ℕ) → List (List ℕ) → List (List ℕ)
values_left None values = values
values_left (Some first) values = first ∷ values

-- the identifier begins with a capital
abbrev pub BeginsName : List ℕ → Type 0
BeginsName identifier = (letter : ℕ) × (rest : List ℕ) × (identifier ≡ letter ∷ rest) × IsTrue (is_upper letter)

-- no value stands at the front
abbrev pub IsNoPropValue : List ℕ → Type 0
IsNoPropValue text = (value rest : List ℕ) → ¬ IsPropValue value text rest

-- A value stands from `start` up to `close`, where its `]` is. Before it come white space and a `[`.
pub record IsValueAt (text : List ℕ) (from start close : ℕ) : Type 0 where
  pub begins : from < start
  pub rises : start ≤ close
  pub within : close < length text
  pub spelled : IsPropValue (slice_range text start close) (drop from text) (drop (close + 1) text)

-- the text after all values at the front
pub record IsPastValues (text rest : List ℕ) : Type 0 where
  pub values : List (List ℕ)
  pub spelled : ArePropValues values text rest
  pub none_left : IsNoPropValue rest

-- all values from the offset `from` on end at the offset `end`
pub record IsValuesEnd (text : List ℕ) (from end : ℕ) : Type 0 where
  pub within : end ≤ length text
  pub past : IsPastValues (drop from text) (drop end text)
