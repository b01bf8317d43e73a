-- The next line was judged from where it leaves the line before it.
use Rattle.judged_lines.proofs.Common.{◌≡◌, ◌≤◌, true, Ok, ap, arith, rules, common_steps, MemoryFault, PlacesRise, node_count, advanced, nodes_before, path_before, Held, PlaysLine, StandsBy, HoldsVerdict}
use Rattle.sgf_outline.specs.declared.limit.TheConstants.{MAX_LENGTH}
use Rattle.judged_lines.specs.GoingOn.{next_by}
use Rattle.judged_lines.proofs.Followers.{given, streak_countable, few_played, follows_on}
use Rattle.judged_lines.proofs.follower.Follower.next.Goals as goal
use Rattle.judged_lines.proofs.follower.Follower.next.Goals.{After-nodes-nodes, In-Ok-true}

module _ (c : After-nodes-nodes) where
  rise : PlacesRise c.self.inside.lines.cursor.at.games
  rise = rw c.outline.ensures at c.nodes-nodes.ensures.places_rise

  nodes : node_count c.self.inside.lines.cursor.at.games ≤ MAX_LENGTH
  nodes = omega (arith, c.nodes-nodes.ensures.count, c.nodes-nodes.ensures.few, ap node_count c.outline.ensures)

module _ (c : In-Ok-true) where
  plays : PlaysLine {E = MemoryFault} (λ n. n) c.self.inside.lines.before c.self.inside.lines.cursor.at c.self.inside.lines.keeper.judged.judge.plays c.next.new.self.keeper.judged.judge.plays (Ok true)
  plays = rw c.in-Ok-true.field-0-test at c.in-Ok-true.ensures.plays

  came : (c.next.new.self.before ≡ Held) × (c.next.new.self.cursor.at ≡ advanced (next_by c.self.inside.lines.before c.self.inside.lines.cursor.at))
  came = rw c.in-Ok-true.field-0-test at c.in-Ok-true.ensures.moved

  stands : StandsBy Held (nodes_before c.next.new.self.cursor.at) (HoldsVerdict (λ kind taken. Unit {0}) c.next.new.self.keeper.judged.judge.judgement c.next.new.self.keeper.judged.verdict c.next.new.self.cursor × (c.next.new.self.keeper.path.items ≡ path_before c.next.new.self.cursor.at))
  stands = rw came.0 at c.in-Ok-true.ensures.stands

pub next-requires-clause-countable : goal.next-requires-clause-countable
next-requires-clause-countable c = grind (arith, common_steps, few_played)

pub overflow_add-self : goal.overflow_add-self
overflow_add-self c =
    let at = goal.at.overflow_add-self c in
    let old = c.self.inside.lines in
    let plays = plays at.In-Ok-true in
    omega (arith, nodes at.After-nodes-nodes, streak_countable old.before old.cursor.at _ old.keeper.judged.judge.plays c.self.inside.streak c.self.invariant plays.0 plays.1)

pub invariant_of-self : goal.invariant_of-self
invariant_of-self c =
    let at = goal.at.invariant_of-self c in
    let old = c.self.inside.lines in
    let new = c.next.new.self in
    let plays = plays at.In-Ok-true in
    let came = came at.In-Ok-true in
    rw came.0 (follows_on old.before old.cursor.at _ old.keeper.judged.judge.plays c.self.inside.streak c.self.invariant plays.0 plays.1 new.cursor.at came.1 (rise at.After-nodes-nodes) _ new.keeper.judged.judge.plays
    (stands at.In-Ok-true) plays.2)

pub returns-in-Ok-true-clause-verdict : goal.returns-in-Ok-true-clause-verdict
returns-in-Ok-true-clause-verdict c = search (rules, plays, In-Ok-true, given, came, stands)
