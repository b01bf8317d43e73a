use Rattle.board_past.proofs.Common.{◌+◌, ◌<◌, [], ◌∷◌, List, ℕ, length, length-append, get_or, refl, slice_set, sym, subst, ap, ◌∙◌, arith, length-set, or_left, or_right, set-get_or, is_set, Emptied, OldRow, HasAllEmptied, AddedBelow, added_all, added_next}
use Rattle.board_past.proofs.EmptiedLemmas.{IsAddedBelow, history_all, logged_more, logged_next, logged_row}
use Rattle.board_past.proofs.RepeatLemmas.{HasAllEmptied-more}
use Rattle.board_past.proofs.past.print_past.emptied.Emptied.add.Goals.{then-word-old, else-word-old}
use Rattle.board_past.proofs.past.print_past.emptied.Emptied.add.Goals as goal

pub each-init : goal.each-init
each-init c = record {
  rows = record { added = λ r below. absurd (omega (arith, below)); same = λ r above. refl };
  count = c.requires.emptied.1.rows;
  room = omega (arith, c.requires.room);
  logged = λ held number is. logged_more held c.args.self.now is;
}

pub each-preserved : goal.each-preserved
each-preserved c =
    let l = c.each in
    let is = l.invariant in
    let old = c.args.self.now in
    let points = c.args.points.now in
    let low : l.row < length l.self.rows = omega (arith, c.each-test.true, c.requires.few, is.count) in
    let last : OldRow = record { word = get_or l.self.rows l.row 0; number = c.args.number; row = l.row } in
    let rows = added_next old.rows points l.self.rows l.row low is.rows in
    elim c.if-word-old.branch [
      | then-word-old w ↦
          subst (λ (x : Emptied). IsAddedBelow old points c.args.number (l.row + 1) x) (sym w.self-is) (record {
            rows = rows;
            count = length-set l.self.rows l.row _ ∙ is.count;
            room = omega (arith, is.room, w.push_reserved.ensures.capacity, ap length w.push_reserved.ensures.items, length-append l.self.log.items (last ∷ []), c.each-test.true);
            logged = λ held count was. logged_row held l.self _ last _ (omega (arith, low, is.count)) count refl refl w.push_reserved.ensures.items (is.logged held count was);
          })
      | else-word-old w ↦
          subst (λ (x : Emptied). IsAddedBelow old points c.args.number (l.row + 1) x) (sym w.self-is) (record {
            rows = subst (λ (xs : List ℕ). AddedBelow old.rows points (l.row + 1) xs) (ap (λ n. slice_set l.self.rows l.row n) w.if-word-old.false ∙ set-get_or l.self.rows l.row 0) rows;
            count = is.count;
            room = omega (arith, is.room);
            logged = is.logged;
          })
    ]

pub returns-clause-both : goal.returns-clause-both
returns-clause-both c =
    let l = c.each in
    let is = l.invariant in
    added_all c.args.self.now.rows c.args.points.now l.self.rows (record { added = λ r below. is.rows.added r (omega (arith, below, c.each-test.false)); same = λ r above. is.rows.same r (omega (arith, above, l.auto.row-end)) })

pub returns-clause-emptied : goal.returns-clause-emptied
returns-clause-emptied c = λ next newest older was number empties.
    let l = c.each in
    let old = c.args.self.now in
    let both = returns-clause-both c in
    let all : HasAllEmptied (is_set l.self.rows) (next ∷ newest ∷ older) = (
      λ goes_on p on stone free. both p ∙ or_right _ _ (empties goes_on p on stone free),
      HasAllEmptied-more (is_set old.rows) (is_set l.self.rows) (newest ∷ older) (λ p set. both p ∙ or_left _ _ set) (history_all old.rows _ _ was.history),
    ) in
    logged_next (newest ∷ older) next l.self all (l.invariant.logged (newest ∷ older) number was)
