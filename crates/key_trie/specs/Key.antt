-- Keys, each a string of bits.
use Rattle.std.specs.Prelude.{◌≡◌, ℕ, ◌<◌, Bool}

-- the bits of two keys are the same before that position
pub record Agree (one other : ℕ → Bool) (end : ℕ) : Type 0 where
  pub each : (position : ℕ) → position < end → one position ≡ other position
