use Rattle.board_past.proofs.Common.{◌≡◌, ◌+◌, ◌<◌, length, reverse, ap, sym, ◌∙◌, arith, rules, length-reverse, Older, PastColourings, all_of}
use Rattle.board_past.proofs.ColouringsLemmas.{length-held, start-of_newest, start-of_older}
use Rattle.board_past.proofs.past.print_past.colourings.Colourings.start_at.Goals as goal

pub returns-then-number-len : goal.returns-then-number-len
returns-then-number-len c =
    let p = c.self.inside in
    let number : c.args.number ≡ length p.older.items = search rules in
    sym (start-of_newest p.newest p.stretch_start p.older.items p.changes.items (all_of c.args.self.now) (ap all_of c.self.view_is) c.self.invariant.0.started c.args.number number)

pub index-requires : goal.index-requires
index-requires c =
    let p = c.self.inside in
    let all : length (all_of c.args.self.now) ≡ length p.older.items + 1 = sym (ap (λ (past : PastColourings). length (all_of past)) c.self.view_is) ∙ omega (arith, length-held p.newest (reverse p.older.items) p.changes.items, length-reverse p.older.items) in
    let count : c.len.result ≡ length p.older.items = search rules in
    let low : c.args.number < length p.older.items = omega (arith, all, count, c.requires, c.if-number-len.false) in
    search rules

pub returns : goal.returns
returns c =
    let p = c.self.inside in
    let all : length (all_of c.args.self.now) ≡ length p.older.items + 1 = sym (ap (λ (past : PastColourings). length (all_of past)) c.self.view_is) ∙ omega (arith, length-held p.newest (reverse p.older.items) p.changes.items, length-reverse p.older.items) in
    let count : c.len.result ≡ length p.older.items = search rules in
    ap (λ (o : Older). o.stretch_start) c.index.ensures
    ∙ sym (start-of_older p.newest p.stretch_start p.older.items p.changes.items (all_of c.args.self.now) (ap all_of c.self.view_is) c.self.invariant.0.started c.args.number c.index.result.now (omega (arith, all, count, c.requires, c.if-number-len.false)))
