use Rattle.sgf_tree.proofs.Common.{◌≡◌, ◌∙◌, ◌+◌, ◌-◌, ℕ, ap, sym, arith, common_steps, game_of, sequence_start, same-game}
use Rattle.sgf_tree.proofs.collection.Collection.game_of.Goals as goal

pub returns : goal.returns
returns c =
    let g = c.self.inside.outline in
    let k = c.sequence_of.result in
    let in_sequence = c.sequence_of.ensures in
    let d : ℕ = c.args.i - sequence_start g k in
    grind (arith, common_steps, same-game g k in_sequence.within d)
