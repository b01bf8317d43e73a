use Rattle.sgf_tree.proofs.Common.{rules, ◌≡◌, ◌<◌, ◌⊎◌, inl, inr, arith, common_steps, err_from_is_err_and}
use Rattle.sgf_tree.proofs.GamesLoop.{games-unclosed, games-faulty, depth-within}
use Rattle.sgf_tree.proofs.WholeRead.{games-opened, unopened-faulty, games-closed, games-faulty-end, games-read}
use Rattle.sgf_tree.proofs.reader.games.read_games.Goals as goal
use Rattle.sgf_tree.proofs.reader.games.read_games.Goals.{then-depth-gt0-via-then-depth-gt0, then-depth-gt0-via-else-depth-gt0+then-at-start}

pub read_sequence-requires-clause-opened : goal.read_sequence-requires-clause-opened
read_sequence-requires-clause-opened g c =
    let so_far = c.games.invariant.so_far in
    (so_far.stack, games-unclosed c.args.text.now c.games.at so_far.stack so_far.stands c.games-test.true c.in-40.is, so_far.kept, omega (arith, so_far.few))

pub returns-in_err-at-in-40-clause-fault : goal.returns-in_err-at-in-40-clause-fault
returns-in_err-at-in-40-clause-fault g c =
    let p = err_from_is_err_and c.from_residual.result c.from_residual.ensures.1 in
    let so_far = c.games.invariant.so_far in
    rw (p.1, p.2)
    (c.in_err-at-in-40.ensures.fault so_far.stack (games-unclosed c.args.text.now c.games.at so_far.stack so_far.stands c.games-test.true c.in-40.is) so_far.kept)

pub overflow_add-depth : goal.overflow_add-depth
overflow_add-depth g c = grind (arith, common_steps, depth-within)

pub games-preserved-in-40 : goal.games-preserved-in-40
games-preserved-in-40 g c =
    let t = c.args.text.now in
    let so_far = c.games.invariant.so_far in
    let read = c.in_ok-at-in-40.ensures in
    record {
      so_far =
          games-opened t (g.K.Visitor.keeps t c.games.visitor) (g.K.Visitor.keeps t c.read_sequence.new.visitor) c.args.at c.games.at c.games.depth c.in_ok-at-in-40.at so_far (omega (arith, read.rises)) read.within
          (read.read so_far.stack (games-unclosed t c.games.at so_far.stack so_far.stands c.games-test.true c.in-40.is) so_far.kept (omega (arith, so_far.few)));
      long = read.long;
    }

pub returns-then-depth-eq0-clause-fault : goal.returns-then-depth-eq0-clause-fault
returns-then-depth-eq0-clause-fault g c = search (rules, unopened-faulty)

pub games-preserved : goal.games-preserved
games-preserved g c = grind (arith, common_steps, games-closed)

pub returns-in_default-clause-fault : goal.returns-in_default-clause-fault
returns-in_default-clause-fault g c = search (rules, games-faulty)

pub returns-then-depth-gt0-clause-fault : goal.returns-then-depth-gt0-clause-fault
returns-then-depth-gt0-clause-fault g c =
    let t = c.args.text.now in
    let so_far = c.games.invariant.so_far in
    let h : (0 < c.games.depth) ⊎ (c.games.at ≡ c.args.at) = elim c.then-depth-gt0.branch [
      | then-depth-gt0-via-then-depth-gt0 w ↦ inl w.if-depth-gt0.true
      | then-depth-gt0-via-else-depth-gt0+then-at-start w ↦ inr w.if-at-start.true
    ] in
    games-faulty-end t (g.K.Visitor.keeps t c.games.visitor) c.args.at c.games.at c.games.depth so_far (omega (arith, so_far.within)) h

pub returns-clause-read : goal.returns-clause-read
returns-clause-read g c =
    let t = c.args.text.now in
    let so_far = c.games.invariant.so_far in
    games-read t (g.K.Visitor.keeps t c.games.visitor) c.args.at c.games.at c.games.depth so_far (omega (arith, so_far.within)) (omega arith) (omega (arith, so_far.rises))
