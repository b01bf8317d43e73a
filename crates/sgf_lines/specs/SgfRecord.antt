-- The record of a line in sgf form: a game of its own (SGF FF[4], without white space between its parts).
use Rattle.std.specs.Prelude.{ℕ, List, ◌++◌, codes}
use Rattle.std.specs.List.{flat_map}
use Rattle.sgf_outline.specs.Written.{node_text}
use Rattle.sgf_outline.specs.Tree.{Node}

-- the nodes between parentheses, and a line feed
abbrev pub sgf_record : List Node → List ℕ
sgf_record nodes = codes "(" ++ flat_map node_text nodes ++ codes ")\n"
