use Rattle.sgf_outline.proofs.Common.{◌≡◌, ◌∙◌, None, sym, arith, rules, common_steps, outer_by}
use Rattle.sgf_outline.proofs.Outlined.{IsEntryOf, entry-in, game-outer, outer-none}
use Rattle.sgf_outline.proofs.outline.Outline.game_of.Goals as goal
use Rattle.sgf_outline.proofs.outline.Outline.game_of.Goals.{After-index}

pub climb-preserved : goal.climb-preserved
climb-preserved c = grind (arith, common_steps, game-outer)

entry : (c : After-index) → IsEntryOf c.self.inside.text.now c.self.inside.sequences.segments.items c.args.self.now c.climb.at c.index.result.now
entry c = entry-in c.self.inside.text.now c.self.inside.sequences c.self.invariant.0 _ c.self.view_is c.climb.at c.index.result.now c.climb.invariant.within c.index.ensures

root : (c : After-index) → outer_by c.index.result.now ≡ None
root c = outer-none c.self.inside.text.now c.self.inside.sequences.segments.items c.args.self.now c.climb.at c.index.result.now (entry c) c.in_default.ensures

pub game-requires : goal.game-requires
game-requires c = root (goal.at.game-requires c).After-index

pub returns : goal.returns
returns c = let w = goal.at.returns c in let h = (entry w.After-index).root_is (root w.After-index) in c.game.ensures ∙ sym h.1 ∙ c.climb.invariant.same
