use Rattle.board_past.proofs.Common.{◌≡◌, length, arith, rules}
use Rattle.board_past.proofs.ColouringsLemmas.{count-all}
use Rattle.board_past.proofs.past.print_past.colourings.Colourings.len.Goals as goal

pub returns : goal.returns
returns c =
    let p = c.self.inside in
    let count : c.len.result ≡ length p.older.items = search rules in
    omega (arith, count, count-all p.newest p.stretch_start p.older.items p.changes.items c.args.self.now c.self.view_is)
