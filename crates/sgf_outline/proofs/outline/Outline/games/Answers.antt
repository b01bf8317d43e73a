use Rattle.sgf_outline.proofs.outline.Outline.games.Goals as goal

pub returns : goal.returns
returns c = cc
