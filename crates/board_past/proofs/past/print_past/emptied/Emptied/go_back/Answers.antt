use Rattle.board_past.proofs.Common.{◌≡◌, ◌≤◌, ◌++◌, ◌∷◌, [], ap, ◌∙◌, slice_set, arith, rules, length-set, common_steps}
use Rattle.board_past.proofs.EmptiedLemmas.{all_but_one, logged_back, logged_tail}
use Rattle.board_past.proofs.past.print_past.emptied.Emptied.go_back.Goals as goal

pub each-init : goal.each-init
each-init c = record { count = c.requires.1.rows; inside = c.requires.1.inside; logged = λ newest older is number. logged_tail newest older c.args.self.now is }

pub each-preserved : goal.each-preserved
each-preserved c =
    let l = c.each in
    let last = c.unwrap-last.result in
    let log : l.self.log.items ≡ c.pop.new.self.items ++ last ∷ [] = search rules in
    let from : c.args.number ≤ last.number = search rules in
    record {
      count = length-set l.self.rows _ last.word ∙ l.invariant.count;
      inside = all_but_one c.pop.new.self.items last (rw log at l.invariant.inside);
      logged = λ newest older is number. logged_back older l.self _ last (omega (arith, from, number)) (ap (λ r. slice_set l.self.rows r last.word) c.from.ensures) log (l.invariant.logged newest older is number);
    }

pub returns-else-index-number : goal.returns-else-index-number
returns-else-index-number c = grind (arith, common_steps)
