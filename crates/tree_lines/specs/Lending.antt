-- What contracts say of a cursor from which a line is borrowed.
use Rattle.std.specs.Prelude.{[]}
use Rattle.std.specs.Borrow.{Fml, MutBor}
use Rattle.std.specs.Io.BufRead.{Rests}
use mir.Syntax.{named}
use Rattle.tree_lines.specs.Cursor.{CursorState}
use Rattle.tree_lines.specs.declared.cursor.Cursor.{Cursor}
use Rattle.tree_lines.specs.contracts.cursor.Cursor.{the_row}

-- P holds of the cursor's state once nothing is borrowed from the cursor any more. 0 and 1 are the two lifetimes of a Cursor.
abbrev pub OnceReturned : MutBor Cursor → (CursorState → Type 0) → Fml
OnceReturned cursor P = Rests (the_row (record { mir = named 0; lft = [] }) (record { mir = named 1; lft = [] })) cursor P
