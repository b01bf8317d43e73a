use Rattle.go_board.proofs.Common.{◌≡◌, ◌≤◌, ◌++◌, reverse, [], ◌∷◌, arith, cond, refl, sym, ap, ◌∙◌, rules, reverse-append, Earlier, past_of_older, past_before, from_bool, turned}
use Rattle.go_board.proofs.EarlierLemmas.{IsRefereeKept-back}
use Rattle.go_board.proofs.referee.Referee.undo.Goals as goal

pub invariant_of-self : goal.invariant_of-self
invariant_of-self g c =
    let was = c.self.inside in
    let kept : Earlier = c.unwrap-earlier.result in
    let past = g.P.Past.held was.past in
    let now = g.P.Past.held c.pop-then-grew.new.self in
    let parts : was.earlier.items ≡ c.pop.new.self.items ++ kept ∷ [] = search rules in
    let from : c.from.result ≡ from_bool (turned kept.call) = search rules in
    let is : past_before past kept ≡ now = ap (λ b. cond b (past_of_older past past.older) past) (sym c.grew.ensures ∙ c.if-grew.true) ∙ ap (past_of_older past) c.pop-then-grew.ensures in
    rw from (IsRefereeKept-back past now was.mover was.turns was.earlier.items c.pop.new.self.items kept parts (sym is) c.self.invariant)

pub invariant_of-self-else-grew : goal.invariant_of-self-else-grew
invariant_of-self-else-grew g c =
    let was = c.self.inside in
    let kept : Earlier = c.unwrap-earlier.result in
    let past = g.P.Past.held was.past in
    let parts : was.earlier.items ≡ c.pop.new.self.items ++ kept ∷ [] = search rules in
    let from : c.from.result ≡ from_bool (turned kept.call) = search rules in
    let is : past_before past kept ≡ past = ap (λ b. cond b (past_of_older past past.older) past) (sym c.grew.ensures ∙ c.if-grew.false) in
    rw from (IsRefereeKept-back past past was.mover was.turns was.earlier.items c.pop.new.self.items kept parts (sym is) c.self.invariant)

-- the rest is only there for speed
pub overflow_sub-self : goal.overflow_sub-self
overflow_sub-self g c =
    let parts : c.self.inside.earlier.items ≡ c.pop.new.self.items ++ c.unwrap-earlier.result ∷ [] = search rules in
    let newest : reverse c.self.inside.earlier.items ≡ c.unwrap-earlier.result ∷ reverse c.pop.new.self.items = ap reverse parts ∙ reverse-append c.pop.new.self.items (c.unwrap-earlier.result ∷ []) in
    let from : c.from.result ≡ from_bool (turned c.unwrap-earlier.result.call) = search rules in
    let most : c.from.result ≤ c.self.inside.turns = omega (arith, from, rw newest at c.self.invariant.counted) in
    search (rules, most)

pub pop-requires-then-grew : goal.pop-requires-then-grew
pop-requires-then-grew g c =
    let parts : c.self.inside.earlier.items ≡ c.pop.new.self.items ++ c.unwrap-earlier.result ∷ [] = search rules in
    let newest : reverse c.self.inside.earlier.items ≡ c.unwrap-earlier.result ∷ reverse c.pop.new.self.items = ap reverse parts ∙ reverse-append c.pop.new.self.items (c.unwrap-earlier.result ∷ []) in
    let enough = rw (sym c.grew.ensures ∙ c.if-grew.true) at (rw newest at c.self.invariant.enough) in
    omega (arith, enough)

pub returns-then-grew-clause-value : goal.returns-then-grew-clause-value
returns-then-grew-clause-value g c =
    let past = g.P.Past.held c.self.inside.past in
    let kept : Earlier = c.unwrap-earlier.result in
    let parts : c.self.inside.earlier.items ≡ c.pop.new.self.items ++ kept ∷ [] = search rules in
    let from : c.from.result ≡ from_bool (turned kept.call) = search rules in
    let is : past_before past kept ≡ g.P.Past.held c.pop-then-grew.new.self = ap (λ b. cond b (past_of_older past past.older) past) (sym c.grew.ensures ∙ c.if-grew.true) ∙ ap (past_of_older past) c.pop-then-grew.ensures in
    rw (sym c.self.view_is) (simp (ap reverse parts ∙ reverse-append c.pop.new.self.items (kept ∷ []), is, from) refl)

pub returns-else-grew-clause-value : goal.returns-else-grew-clause-value
returns-else-grew-clause-value g c =
    let past = g.P.Past.held c.self.inside.past in
    let kept : Earlier = c.unwrap-earlier.result in
    let parts : c.self.inside.earlier.items ≡ c.pop.new.self.items ++ kept ∷ [] = search rules in
    let from : c.from.result ≡ from_bool (turned kept.call) = search rules in
    let is : past_before past kept ≡ past = ap (λ b. cond b (past_of_older past past.older) past) (sym c.grew.ensures ∙ c.if-grew.false) in
    rw (sym c.self.view_is) (simp (ap reverse parts ∙ reverse-append c.pop.new.self.items (kept ∷ []), is, from) refl)
