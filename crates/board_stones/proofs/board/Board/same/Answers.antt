use Rattle.board_stones.proofs.Common.{sym, ◌∙◌, false≢true, not-false, Decides-eqb}
use Rattle.std.proofs.lemmas.Slice.Eq.{slice_eq-Decides}
use Rattle.board_stones.proofs.StoneRowsLemmas.{same_rows}
use Rattle.board_stones.proofs.board.Board.same.Goals as goal

pub returns-then-eq : goal.returns-then-eq
returns-then-eq c =
    let i = c.self.inside in
    let o = c.other.inside in
    let sizes = (Decides-eqb i.size o.size).0 (not-false _ (sym c.ne.ensures ∙ c.if-ne.false)) in
    let same = same_rows c.from-side.result i.size o.size i.black i.white o.black o.white _ _ (c.from-side.ensures ∙ c.side.ensures.value) sizes c.self.view_is c.other.view_is c.self.invariant.0 c.other.invariant.0 in
    let whites = slice_eq-Decides Decides-eqb _ _ c.eq-then-eq.result c.eq-then-eq.ensures in
    (λ is. same.0 ((slice_eq-Decides Decides-eqb _ _ c.eq.result c.eq.ensures).0 c.if-eq.true, whites.0 is), λ e. whites.1 (same.1 e).1)

pub returns-else-eq : goal.returns-else-eq
returns-else-eq c =
    let i = c.self.inside in
    let o = c.other.inside in
    let sizes = (Decides-eqb i.size o.size).0 (not-false _ (sym c.ne.ensures ∙ c.if-ne.false)) in
    let same = same_rows c.from-side.result i.size o.size i.black i.white o.black o.white _ _ (c.from-side.ensures ∙ c.side.ensures.value) sizes c.self.view_is c.other.view_is c.self.invariant.0 c.other.invariant.0 in
    (λ is. absurd (false≢true (sym c.if-eq.false ∙ is)), λ e. (slice_eq-Decides Decides-eqb _ _ c.eq.result c.eq.ensures).1 (same.1 e).0)
