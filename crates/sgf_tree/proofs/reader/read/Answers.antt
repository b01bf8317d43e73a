use Rattle.sgf_tree.proofs.reader.read.Goals as goal

pub read_whole-requires-clause-nothing_read : goal.read_whole-requires-clause-nothing_read
read_whole-requires-clause-nothing_read c = c.in_ok-nodes.ensures.none c.args.text.now
