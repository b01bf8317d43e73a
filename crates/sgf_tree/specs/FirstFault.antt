-- How far a text is the beginning of some text of the grammar (this project's choice).
use Rattle.std.specs.Prelude.{ℕ, ◌<◌, ◌≤◌, List, ◌++◌, length, take, All}
use Rattle.sgf_outline.specs.Tree.{Games}
use Rattle.sgf_outline.specs.Spelling.{Spells}

-- the text `front` and some bytes after it spell a collection
abbrev pub BeginsCollection : List ℕ → Type 0
BeginsCollection front = (more : List ℕ) × (games : Games) × All (λ b. b < 256) more × Spells games (front ++ more)

-- `at` is the greatest n for which the first n bytes of the text begin some text
-- of the grammar. If the text itself is of the grammar, `at` is its length.
pub record IsFirstFault (text : List ℕ) (at : ℕ) : Type 0 where
  pub within : at ≤ length text
  pub begins : BeginsCollection (take at text)
  pub greatest : (n : ℕ) → n ≤ length text → BeginsCollection (take n text) → n ≤ at
