use Rattle.std.proofs.Common.{reverse, sym, arith}
use Rattle.board_past.proofs.ColouringsLemmas.{started-le, length-held, start-newest}
use Rattle.board_past.proofs.past.print_past.colourings.Colourings.stretch_start.Goals as goal

pub returns-clause-below : goal.returns-clause-below
returns-clause-below c =
    let p = c.self.inside in
    let os = reverse p.older.items in
    rw (← c.self.view_is) (omega (arith, length-held p.newest os p.changes.items, started-le p.stretch_start os c.self.invariant.0.started))

pub returns-clause-start : goal.returns-clause-start
returns-clause-start c =
    let p = c.self.inside in
    rw (← c.self.view_is) (sym (start-newest p.newest p.stretch_start (reverse p.older.items) p.changes.items c.self.invariant.0.started))
