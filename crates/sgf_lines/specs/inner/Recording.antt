-- The record of the line before a cursor; in sgf form, in pieces.
use Rattle.std.specs.Prelude.{◌≡◌, ℕ, List, [], ◌∷◌, Some, map, option_map, codes}
use Rattle.std.specs.List.{flat_map}
use Rattle.sgf_outline.specs.Tree.{Node}
use Rattle.tree_lines.specs.Following.{line_before, nodes_before}
use Rattle.tree_lines.specs.Sequences.{SequencesState, sequences_of}
use Rattle.sgf_lines.specs.Record.{node_text, record_of}
use Rattle.sgf_lines.specs.declared.options.Form.{Form}
use Rattle.sgf_lines.specs.inner.Pieces.{PiecesState}

-- a text is the record of the line before a cursor
abbrev pub IsRecord : Form → SequencesState → List ℕ → Type 0
IsRecord form cursor text = Some text ≡ option_map (record_of form) (line_before cursor.at)

-- the line before a cursor, in sequences
abbrev pub sequences_before : SequencesState → List (List Node)
sequences_before cursor = sequences_of cursor.ends (nodes_before cursor.at)

-- the record of a line's sequences without its end, and with it
abbrev pub unclosed_record : List (List Node) → PiecesState
unclosed_record sequences = record { pieces = codes "(" ∷ map (flat_map node_text) sequences; begun = [] }

abbrev pub whole_record : List (List Node) → PiecesState
whole_record sequences = record { pieces = codes "(" ∷ map (flat_map node_text) sequences; begun = codes ")\n" }
