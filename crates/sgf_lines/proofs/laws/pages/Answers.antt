-- Where places rise, the line with a place is found at its own position.
use Rattle.sgf_lines.proofs.Common.{None, option_map, ap, limited}
use Rattle.sgf_lines.proofs.Pages.{goes_on}
use Rattle.sgf_lines.proofs.laws.pages.Goals as goal

pub returns : goal.returns
returns c = λ games text spelled o front last e.
    let h = goes_on games o front last (c.places_rise.ensures games text spelled) e in
    (h.rest, ap (option_map (limited None)) h.after, ap (option_map (limited None)) h.whole)
