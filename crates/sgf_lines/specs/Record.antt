-- The record of a line: what is written for it. The output of a run: the records of its lines, one after the other.
use Rattle.std.specs.Prelude.{ℕ, List}
use Rattle.std.specs.List.{flat_map}
pub use Rattle.sgf_outline.specs.Written.{value_text, property_text, node_text}
use Rattle.sgf_lines.specs.Form.{Form, entry_of}
use Rattle.tree_lines.specs.Lines.{Line}
pub use Rattle.sgf_lines.specs.SgfRecord.{sgf_record}

-- the record of a line in a form
abbrev pub record_of : Form → Line → List ℕ
record_of form line = (entry_of form).text line

-- the records of lines, joined in order
abbrev pub output : Form → List Line → List ℕ
output form lines = flat_map (record_of form) lines
