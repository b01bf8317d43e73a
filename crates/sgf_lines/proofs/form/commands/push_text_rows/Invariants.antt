use Rattle.sgf_lines.proofs.Common.{◌≡◌, ◌++◌, ◌==◌, length, flat_map, slice_split, comment_row}
use Rattle.sgf_lines.proofs.form.commands.push_text_rows.Given as goal

-- the rows so far, and those of the pieces of the rest, are all
abbrev pub invariant-pieces : goal.invariant-pieces
invariant-pieces l =
    l.output.items ++ flat_map comment_row (slice_split (λ c. c == 10) l.rest)
    ≡ l.initial.output.items ++ flat_map comment_row (slice_split (λ c. c == 10) l.text)

abbrev pub decreases-pieces : goal.decreases-pieces
decreases-pieces l = length l.rest
