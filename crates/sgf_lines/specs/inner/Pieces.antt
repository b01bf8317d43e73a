-- A text that is divided into pieces by the offsets where they end.
use Rattle.std.specs.Prelude.{◌≡◌, ℕ, ◌-◌, List, [], ◌∷◌, ◌++◌, take, drop}
use Rattle.sgf_outline.specs.Written.{ends_from}

-- pieces of text, one after the other, and an unfinished piece after them
pub record PiecesState : Type 0 where
  pub pieces : List (List ℕ)
  pub begun : List ℕ

abbrev pub no_pieces : PiecesState
no_pieces = record { pieces = []; begun = [] }

-- text is appended to the unfinished piece
abbrev pub pushed : PiecesState → List ℕ → PiecesState
pushed old more = record { pieces = old.pieces; begun = old.begun ++ more }

-- the unfinished piece is finished, and a new one begins empty
abbrev pub closed : PiecesState → PiecesState
closed old = record { pieces = old.pieces ++ old.begun ∷ []; begun = [] }

-- only the first `count` pieces are left
abbrev pub cut : ℕ → PiecesState → PiecesState
cut count old = record { pieces = take count old.pieces; begun = [] }

-- the pieces of a text that begins at the offset `start`, by the ends of the pieces
abbrev pub pieces_from : ℕ → List ℕ → List ℕ → List (List ℕ)
pieces_from start [] text = []
pieces_from start (end ∷ ends) text = take (end - start) text ∷ pieces_from end ends (drop (end - start) text)

-- the text after those pieces
abbrev pub rest_from : ℕ → List ℕ → List ℕ → List ℕ
rest_from start [] text = text
rest_from start (end ∷ ends) text = rest_from end ends (drop (end - start) text)

-- the offsets are those at which these pieces end
abbrev pub AreEnds : List ℕ → List ℕ → Type 0
AreEnds ends text = ends ≡ ends_from 0 (pieces_from 0 ends text)
