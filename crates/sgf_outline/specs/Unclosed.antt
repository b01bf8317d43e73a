-- Whole and unclosed games, and how many nodes they have.
use Rattle.std.specs.Prelude.{ℕ, ◌+◌, List, [], ◌∷◌, length}
use Rattle.sgf_outline.specs.Tree.{Games, node_count}
use Rattle.sgf_outline.specs.Machine.{UnclosedGame, Stack}

-- whole games, and no unclosed one
abbrev pub whole : Games → Stack
whole games = record { closed = games; unclosed = [] }

-- how many nodes the closed and the unclosed games have
abbrev pub unclosed_count : Games → List UnclosedGame → ℕ
unclosed_count closed [] = node_count closed
unclosed_count closed (inmost ∷ outer) = unclosed_count closed outer + 1 + length inmost.more + node_count inmost.below
