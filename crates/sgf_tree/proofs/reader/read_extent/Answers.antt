use Rattle.sgf_tree.proofs.reader.read_extent.Goals as goal

pub returns-clause-measured : goal.returns-clause-measured
returns-clause-measured c =
    let read = c.in_ok-read_whole.ensures.read in let is = read.kept in
    record { collection = _; spelled = read.spelled; games_counted = is.games_counted; nodes_counted = is.nodes_counted; leaves_counted = is.leaves_counted }
