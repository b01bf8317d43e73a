-- What a caller asks for, as the options of a run.
use Rattle.std.specs.Prelude.{ℕ, if◌then◌else◌, Bool, Option, Some, None, option_map, slice_get}
use Rattle.sgf_lines.specs.Form.{forms}
use Rattle.sgf_lines.specs.declared.options.Options.{Options}
use Rattle.sgf_lines_c.specs.declared.asked.Asked.{Asked}

-- the number if `counts` is true; else None
abbrev pub given : Bool → ℕ → Option ℕ
given counts number = if counts then Some number else None

-- the options of the run; None if no form has the number `form`
abbrev pub options_of : Asked → Option Options
options_of asked =
    option_map (λ form. record { form = form; after = given asked.has_after asked.after; limit = given asked.has_limit asked.limit }) (slice_get forms asked.form)
