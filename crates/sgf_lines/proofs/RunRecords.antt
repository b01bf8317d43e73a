-- The record that a form made is that of the line before the cursor.
use Rattle.sgf_lines.proofs.Common.{concat, CursorState, nodes_of, line_before, nodes_before, Line, RiseTo, SequencesState, sequences_of, Verdict, game_kind, root_properties, verdict_of, legal_on, Form, list_row, record_of, comment_row, PiecesState, whole_record, IsRecord, ScriptState, script_of, script_text, row_of, common_steps, ◌≡◌, ℕ, List, ◌++◌, length, Some, ap, ◌∙◌, append_assoc, rules, option_map, codes, arith, parts_text}
use Rattle.sgf_lines.specs.declared.options.Form.TheVariants.{Sgf as sgf_form, Gtp as gtp_form}
use Rattle.sgf_lines.proofs.Scripts.{script_put}

module _ (at : CursorState) (own : Line) (before : line_before at ≡ Some own) where
  nodes_are : nodes_before at ≡ own.nodes
  nodes_are = ap nodes_of before

  -- the line's row
  pub row_is : (v : Verdict) → v ≡ verdict_of (nodes_before at) → row_of own v ≡ list_row own
  row_is v told = ap (row_of own) (told ∙ ap verdict_of nodes_are)

  -- in gtp form: its row as a comment, its commands, and an empty row
  pub made_script : (v : Verdict) → v ≡ verdict_of (nodes_before at) → (row : List ℕ) → row ≡ comment_row (row_of own v)
      → (script : ScriptState) → script ≡ script_of (game_kind (root_properties (nodes_before at))) (legal_on (game_kind (root_properties (nodes_before at))) (nodes_before at)) → row ++ (script_text script ++ codes "\n") ≡ record_of gtp_form own
  made_script v told row is script said = search (rules, nodes_are, row_is, script_put, append_assoc)

  -- in sgf form
  pub made_record : (game : PiecesState) (ends : List ℕ) → RiseTo 0 ends (length (nodes_before at)) → game ≡ whole_record (sequences_of ends (nodes_before at))
      → Some (concat game.pieces ++ game.begun) ≡ option_map (record_of sgf_form) (line_before at)
  made_record game ends rise is = grind (arith, common_steps, nodes_are, parts_text)

-- the record that was made is that of the line
pub record_is : (form : Form) (cursor : SequencesState) (line : Line) (text : List ℕ) → IsRecord form cursor text → line_before cursor.at ≡ Some line → text ≡ record_of form line
record_is form cursor line text made before = let same : Some text ≡ Some (record_of form line) = rw before at made in cc
