-- What a sink holds back after the bytes that it passed to its writer.
use Rattle.std.specs.Prelude.{ℕ, List, Option, Some, None, refl}
use Rattle.std.specs.Io.KnownBytes.{Appends, append_known}

-- the bytes that are held back come after those that were passed on
pub held_back : (handed : Option (List ℕ)) (held : List ℕ) → (rest : List ℕ) × Appends handed (append_known handed held) rest
held_back None held = (held, tt)
held_back (Some bytes) held = (held, refl)
