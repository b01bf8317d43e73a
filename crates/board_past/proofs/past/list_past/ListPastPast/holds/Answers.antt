use Rattle.board_past.proofs.Common.{◌≡◌, ◌≢◌, ◌↔◌, false, Contains, IsTrue, reverse, sym, subst, ◌∙◌, false≢true, PastColourings, present_stretch, stretch_of}
use Rattle.board_past.proofs.ListPastLemmas.{going_on, only_later}
use Rattle.board_past.proofs.past.list_past.ListPastPast.holds.Goals as goal

pub returns-then-not-self : goal.returns-then-not-self
returns-then-not-self c =
    let p = c.self.inside in
    let one = c.self-inside.view_is in
    let on : p.newest.begins ≡ false = rw (← one) c.if-not-self.true in
    let other : p.newest.colouring ≢ c.args.board.now = λ e. false≢true (sym c.if-same.false ∙ c.same.ensures.1 (rw (← one) at e)) in
    let others : IsTrue c.stretch_has.result ↔ Contains (stretch_of (reverse p.older.items)) c.args.board.now = rw (← one) (rw c.deref.ensures.value at c.stretch_has.ensures) in
    subst (λ (past : PastColourings). IsTrue c.stretch_has.result ↔ Contains (present_stretch past) c.args.board.now) c.self.view_is
    (λ t. going_on p.newest.colouring c.args.board.now p.newest.begins _ on (others.0 t), λ h. others.1 (only_later p.newest.colouring c.args.board.now p.newest.begins _ other h).1)
