-- The answers are only there for speed.
use Rattle.sgf_tree.proofs.ByteOrderMark.{games_begin}
use Rattle.sgf_tree.proofs.reader.read_whole.Goals as goal

pub read_games-requires-clause-begins : goal.read_games-requires-clause-begins
read_games-requires-clause-begins g c =
    games_begin c.args.text.now c.in_ok-mark.mark c.skip_white_space.result c.in_ok-mark.ensures.read c.skip_white_space.ensures

pub returns : goal.returns
returns g c = let is = c.read_games.ensures in record { read = is.read; fault = is.fault; kept = is.long }
